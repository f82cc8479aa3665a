-- What is consumed for a build in production leaves builds, allocations and stock sound.
use Rattle.std.proofs.Common.{◌≡◌, inl, inr, ℕ, ◌+◌, ◌<◌, ◌≤◌, Bool, true, false, cond, not, List, [], ◌∷◌}
use Rattle.std.proofs.Common.{Option, Some, None, refl, sym, ap, ◌∙◌, subst, arith, eqb-true, eq-eqb, is_some, is_none}
use Rattle.std.specs.Prelude.{◌*◌, ◌++◌, ◌==◌, ◌&&◌, if◌then◌else◌, sum_by, unwrap_or}
use Rattle.std.specs.FinMap as table
use Rattle.std.specs.List.{find}
use Rattle.std.proofs.lemmas.Nat.{mul-lt}
use mathlib.Core.Bool.{and-true}
use Rattle.part_core.specs.Catalogue.{Parts, is_trackable, part_in}
use Rattle.word_core.specs.Checks.{first}
use Rattle.word_core.specs.Counter.{Numbering, drawn, lacks}
use Rattle.word_core.specs.Day.{CivilDay}
use Rattle.sheet_core.specs.Rows.{EachRow, StandRight}
use Rattle.sheet_core.specs.Sheet.{Table}
use Rattle.word_core.specs.declared.refusal.Refusal.TheVariants.{NoSuch, Mismatch, Full}
use Rattle.sheet_core.proofs.Conditions.{and_both, and_parts, not_false}
use Rattle.word_core.proofs.CheckLemmas.{none-holds}
use Rattle.sheet_core.proofs.RowLemmas.{each-insert, get-insert_cases, get-remove_cases, right-changed, right-later}
use Rattle.sheet_core.proofs.RowLemmas.{right-new, right-none, right-number}
use Rattle.sheet_core.proofs.Standing.{Stands, Stands-get, get-Stands}
use Rattle.sheet_core.proofs.Totals.{of_option, sum-insert, sum-insert_new, sum-remove}
use Rattle.bom_core.specs.Bills.{Bills, fits, is_effective}
use Rattle.bom_core.specs.Sound.{IsSoundBill}
use Rattle.bom_core.specs.declared.line.Line.{Line}
use Rattle.alloc_core.specs.Allocations.{allocated_for_line, amount_where, is_for_line, is_of_item}
use Rattle.alloc_core.specs.Covered.{IsCovered}
use Rattle.alloc_core.specs.Release.{release}
use Rattle.alloc_core.specs.Sound.{AreSoundAllocations}
use Rattle.alloc_core.specs.declared.allocation.Allocation.{Allocation}
use Rattle.alloc_core.specs.declared.purpose.Purpose.{Purpose}
use Rattle.alloc_core.specs.declared.purpose.Purpose.TheVariants.{Sale, Build as For}
use Rattle.alloc_core.proofs.Covers.{covered-of, stands-sound}
use Rattle.alloc_core.proofs.Sound.{release-is, sound-without}
use Rattle.alloc_core.proofs.Sums.{sum-cons, sum-stands}
use Rattle.yard_core.specs.Outputs.{LeavesOutputs}
use Rattle.yard_core.specs.Stock.{Stock, item_at}
use Rattle.yard_core.specs.StockBooks.{StockBooks, is_full}
use Rattle.yard_core.proofs.Quiet.{leaves-none}
use Rattle.stock_core.specs.ItemTests.{has_more, part_at}
use Rattle.stock_core.specs.Pieces.{CanCut}
use Rattle.stock_core.specs.Sound.{IsSoundStock, Owners}
use Rattle.stock_core.specs.StockMachine.{Grows}
use Rattle.stock_core.specs.Steps.{take}
use Rattle.stock_core.proofs.Beside.{sound-later}
use Rattle.stock_core.proofs.Checked.{sound-leads}
use Rattle.stock_core.proofs.Plain.{item_of}
use Rattle.stock_core.proofs.Serving.{GoesOn, IsServed, served-one}
use Rattle.stock_core.proofs.Taking.{there-loose}
use Rattle.stock_core.proofs.Upright.{Upright, upright-of}
use Rattle.build_core.specs.Builds.{BuildBooks, build_at, is_open, owners_beside}
use Rattle.build_core.specs.CompleteBuild.{used_for}
use Rattle.build_core.specs.Consume.{allocation_at, build_for, consume, consume_checks, drawn_for, is_for_whole}
use Rattle.build_core.specs.Consume.{line_for, no_allocation, spend_in, used_up}
use Rattle.build_core.specs.Needs.{is_named_right, is_suited, is_untracked, is_untracked_of, line_in, required}
use Rattle.build_core.specs.Needs.{wanted_whole}
use Rattle.build_core.specs.Sound.{AreSoundBooks, IsRightMeant, IsSoundFor, IsSoundSpent, IsSpentOnce}
use Rattle.build_core.specs.Spent.{amount_on, is_spent_on, new_spent, put_spent, spent_on, spent_row, with_more}
use Rattle.build_core.specs.declared.build.Build.{Build}
use Rattle.build_core.specs.declared.spent.Spent.{Spent}
use Rattle.build_core.proofs.Kept.{IsSameBuild, OutputStays, output-is}
use Rattle.build_core.proofs.OpenBuilds.{open-there}
use Rattle.build_core.proofs.Rests.{OutputsStay, outputs-left}
use Rattle.stock_core.proofs.Served.{IsLeft, full-grows, left-cut}
use Rattle.build_core.proofs.Using.{use-one}

-- ---- the allocation

pub whole-told : (p : Purpose) → is_for_whole p ≡ true → p ≡ For (build_for p) (line_for p) None
whole-told (Sale order line) e = cc
whole-told (For build line None) e = refl
whole-told (For build line (Some output)) e = cc

pub allocation-there : (o : Option Allocation) → is_none o ≡ false → o ≡ Some (unwrap_or o no_allocation)
allocation-there None e = cc
allocation-there (Some a) e = refl

-- ---- the row of what was spent

pub find-some : {X : Type 0} (p : X → Bool) (xs : List X) (x : X) → find p xs ≡ Some x → Stands x xs × (p x ≡ true)
find-some p [] x e = cc
find-some {X} p (y ∷ ys) x e = go (p y) refl (find-some p ys x) e
  where
    go : (c : Bool) → p y ≡ c → (find p ys ≡ Some x → Stands x ys × (p x ≡ true))
        → cond c (Some y) (find p ys) ≡ Some x → Stands x (y ∷ ys) × (p x ≡ true)
    go true f ih h = let is : y ≡ x = cc in (inl is, ap p (sym is) ∙ f)
    go false f ih h = let r = ih h in (inr r.0, r.1)

pub find-none : {X : Type 0} (p : X → Bool) (xs : List X) → find p xs ≡ None → (x : X) → Stands x xs → p x ≡ false
find-none p [] e x h = absurd h
find-none {X} p (y ∷ ys) e x h = go (p y) refl (λ k. find-none p ys k x) e
  where
    go : (c : Bool) → p y ≡ c → (find p ys ≡ None → Stands x ys → p x ≡ false)
        → cond c (Some y) (find p ys) ≡ None → p x ≡ false
    go true f ih k = cc
    go false f ih k = elim h [ inl same ↦ ap p (sym same) ∙ f | inr later ↦ ih k later ]

-- a row adds what it has, more of it so much more
amount-more : (c : Bool) (r q : ℕ) → (if c then r + q else 0) ≡ (if c then q else 0) + (if c then r else 0)
amount-more true r q = omega arith
amount-more false r q = refl

-- counted and not tracked is untracked
untracked-of : (t c : Bool) → c ≡ true → not (t && c) ≡ true → (not t && c) ≡ true
untracked-of true true e f = cc
untracked-of false true e f = refl
untracked-of t false e f = cc

module _ (n : ℕ) (day : CivilDay) (is_order : ℕ → Bool) (parts : Parts) (bills : Bills) (b : BuildBooks)
    (bill : IsSoundBill parts bills b.books.counter.next) (sound : AreSoundBooks is_order parts bills b)
    (known : is_none (table.get b.allocations (n ∷ [])) ≡ false)
    (whole : is_for_whole (allocation_at n b).purpose ≡ true) where
  abbrev pub s : Stock
  s = b.books.stock

  abbrev pub owners : Owners
  owners = owners_beside is_order b.builds

  abbrev pub a : Allocation
  a = allocation_at n b

  abbrev pub build : ℕ
  build = build_for a.purpose

  abbrev pub line : ℕ
  line = line_for a.purpose

  abbrev pub left : Table Allocation
  left = release n b.allocations

  abbrev pub others : List Allocation
  others = table.values left

  abbrev pub used : BuildBooks
  used = used_up n day b

  pub a-there : table.get b.allocations (n ∷ []) ≡ Some a
  a-there = allocation-there (table.get b.allocations (n ∷ [])) known

  is-for : a.purpose ≡ For build line None
  is-for = whole-told a.purpose whole

  pub meant : IsSoundFor parts bills b a.item build line None
  meant = sound.builds.each_allocation (n ∷ []) a a-there build line None is-for

  build-row : table.get b.builds (build ∷ []) ≡ Some (build_at build b)
  build-row = open-there build b meant.still_open

  pub is-build : owners.is_build build ≡ true
  is-build = ap is_some build-row

  build-number : (m : ℕ) → table.get b.builds (m ∷ []) ≡ Some (build_at m b) → (build_at m b).number ≡ m
  build-number m at = right-number (λ (y : Build). y.number) b.books.counter.next m (build_at m b) b.builds
      sound.builds.rows at

  line-number : (k : ℕ) (l : Line) → line_in k bills ≡ Some l → l.number ≡ k
  line-number k l at = right-number (λ (y : Line). y.number) b.books.counter.next k l bills.lines bill.line_rows at

  -- ---- what it holds is used up

  pub up : Upright owners parts b.books
  up = upright-of owners parts b.books sound.stock

  left-sound : AreSoundAllocations left b.books
  left-sound =
      subst (λ t. AreSoundAllocations t b.books)
      (sym (release-is b.books.counter.next n b.allocations sound.allocations.rows))
      (sound-without b.allocations b.books sound.allocations (λ (x : Allocation). x.number == n))

  -- with it they are all
  sum-all : (f : Allocation → ℕ) → f a + sum_by f others ≡ sum_by f (table.values b.allocations)
  sum-all f = ap (λ o. of_option f o + sum_by f others) (sym a-there) ∙ sum-remove f b.allocations (n ∷ [])

  pub covered : IsCovered s (a ∷ others)
  covered = record {
    each = (sound.allocations.each (n ∷ []) a a-there, (covered-of left b.books left-sound).each);
    within = λ k. omega (
      arith,
      sum-cons (is_of_item k) a others,
      sum-all (amount_where (is_of_item k)),
      sound.allocations.within k,
    );
  }

  pub uses : GoesOn owners parts (take a.item a.quantity day b.books) used.books
      × LeavesOutputs s.items used.books.stock.items
  uses = use-one build day owners is-build parts s a others b.books up covered (leaves-none s.items)

  pub served : IsServed owners parts b.books used.books others
  served = served-one owners parts day (used_for build day) a others b.books up covered uses.0

  -- ---- it can be

  abbrev pub Quiet : List Allocation → StockBooks → Type 0
  Quiet xs c = LeavesOutputs s.items c.stock.items

  -- it alone is to be served
  left-alone : IsLeft (used_for build day) day Quiet (a ∷ []) (a ∷ []) b.books b.books
  left-alone = record {
    owners = owners;
    parts = parts;
    others = others;
    one = λ x xs c upright held quiet. use-one build day owners is-build parts s x (xs ++ others) c upright held quiet;
    upright = up;
    covered = covered;
    ready = leaves-none s.items;
    served = refl;
    within = sound.stock.items.within;
  }

  pub can-cut : has_more a.item a.quantity s ≡ true → lacks 1 b.books.counter ≡ false
      → b.books.counter.limits.entries ≤ 10000000000 → CanCut a.item a.quantity None b.books
  can-cut more room small = left-cut (used_for build day) day Quiet (a ∷ []) a [] b.books b.books left-alone more room small

  -- ---- its amount

  amount-is : (m k : ℕ) → amount_where (λ (x : Allocation). is_for_line m k None x.purpose) a
      ≡ (if (build == m) && (line == k) then a.quantity else 0)
  amount-is m k =
      ap (λ p. if is_for_line m k None p then a.quantity else 0) is-for
      ∙ ap (λ c. if c then a.quantity else 0) (and-true ((build == m) && (line == k)))

  same-line : (build == build) && (line == line) ≡ true
  same-line = and_both (build == build) (line == line) (eq-eqb build build refl) (eq-eqb line line refl)

  -- the line wants it
  pub enough : a.quantity + spent_on build line b.spent ≤ wanted_whole meant.row (build_at build b)
  enough =
      let amount = amount-is build line ∙ ap (λ c. if c then a.quantity else 0) same-line in
      let stands =
      sum-stands (λ (x : Allocation). is_for_line build line None x.purpose) a (table.values b.allocations)
      (get-Stands b.allocations (n ∷ []) a a-there) in
      let spent : spent_on (build_at build b).number meant.row.number b.spent ≡ spent_on build line b.spent =
      ap (λ i. spent_on i meant.row.number b.spent) (build-number build build-row)
      ∙ ap (λ i. spent_on build i b.spent) (line-number line meant.row meant.there) in
      omega (arith, amount, stands, meant.needed, spent, (sound.allocations.each (n ∷ []) a a-there).some)

  -- ---- the books after that, whatever row has what was spent

  -- other rows of what was spent, and a counter that goes on
  abbrev pub later : Table Spent → Numbering → BuildBooks
  later new counter = record used { spent = new; books = record { stock = used.books.stock; counter = counter } }

  -- the table has so much more for the line, and the counter goes on
  pub record IsSpent (new : Table Spent) (counter : Numbering) : Type 0 where
    pub rows : StandRight (λ x. x.number) counter.next new
    pub each : EachRow (IsSoundSpent parts bills b) new
    pub once : IsSpentOnce new
    pub more : (m k : ℕ) → spent_on m k new
        ≡ (if (build == m) && (line == k) then a.quantity else 0) + spent_on m k b.spent
    pub numbers : used.books.counter.next ≤ counter.next
    pub limits : counter.limits ≡ used.books.counter.limits

  module _ (new : Table Spent) (counter : Numbering) (spent : IsSpent new counter)
      (room : is_full (later new counter).books ≡ false) where
    abbrev after : BuildBooks
    after = later new counter

    -- a number more is drawn at most
    grows-later : Grows used.books after.books
    grows-later = record {
      numbers = spent.numbers;
      limits = spent.limits;
      entries = omega arith;
      items = λ k x e. (x, e, refl);
    }

    room-used : is_full used.books ≡ false
    room-used = go (is_full used.books) refl
      where
        go : (c : Bool) → is_full used.books ≡ c → c ≡ false
        go false e = refl
        go true e = let clash : true ≡ false = sym (full-grows used.books after.books grows-later e) ∙ room in cc

    both : IsSoundStock owners parts used.books × Grows b.books used.books
    both = sound-leads owners parts b.books used.books served.leads room-used

    stock : IsSoundStock owners parts after.books
    stock = sound-later owners parts used.books counter spent.numbers spent.limits both.0

    grows : Grows b.books after.books
    grows = record {
      numbers = omega (arith, both.1.numbers, spent.numbers);
      limits = spent.limits ∙ both.1.limits;
      entries = both.1.entries;
      items = both.1.items;
    }

    allocations : AreSoundAllocations left after.books
    allocations = record {
      rows = right-later (λ (x : Allocation). x.number) b.books.counter.next counter.next left grows.numbers
          left-sound.rows;
      each = λ k x e. stands-sound used.books.stock others served.covered.each x (get-Stands left k x e);
      within = served.covered.within;
    }

    -- ---- builds

    same : (m : ℕ) → IsSameBuild b after m
    same m = record { still_open = λ h. h; number = refl; part = refl; quantity = refl }

    outputs-stay : OutputsStay b after
    outputs-stay k m y at f =
        let row = uses.1.was k m (ap (λ o. (item_of o).place) at ∙ f) in
        (same m, sym row ∙ at)

    stays : (k m l : ℕ) (o : Option ℕ) → IsSoundFor parts bills b k m l o → OutputStays o s after.books.stock
    stays k m l None h = tt
    stays k m l (Some o) h = uses.1.stays o m h.output_is

    -- what is needed still covers what is allocated
    needed : (m k j : ℕ) (o : Option ℕ) (h : IsSoundFor parts bills b j m k o)
        → allocated_for_line m k o left ≤ required h.row (build_at m b) o new used.books.stock
    needed m k j None h =
        let sum = sum-all (amount_where (λ (x : Allocation). is_for_line m k None x.purpose)) in
        let spent_new : spent_on (build_at m b).number h.row.number new ≡ spent_on m k new =
        ap (λ i. spent_on i h.row.number new) (build-number m (open-there m b h.still_open))
        ∙ ap (λ i. spent_on m i new) (line-number k h.row h.there) in
        let spent_old : spent_on (build_at m b).number h.row.number b.spent ≡ spent_on m k b.spent =
        ap (λ i. spent_on i h.row.number b.spent) (build-number m (open-there m b h.still_open))
        ∙ ap (λ i. spent_on m i b.spent) (line-number k h.row h.there) in
        omega (arith, sum, amount-is m k, spent_new, spent_old, spent.more m k, h.needed)
    needed m k j (Some o) h =
        let sum = sum-all (amount_where (λ (x : Allocation). is_for_line m k (Some o) x.purpose)) in
        let row = stays j m k (Some o) h in
        let need : h.row.quantity * (item_at o used.books.stock).quantity ≡ h.row.quantity * (item_at o s).quantity =
        ap (λ i. h.row.quantity * (item_of i).quantity) row in
        omega (arith, sum, need, h.needed)

    each-allocation : EachRow (IsRightMeant parts bills after) left
    each-allocation k x at m l o is =
        let was = (get-remove_cases b.allocations (n ∷ []) k x at).1 in
        let h = sound.builds.each_allocation k x was m l o is in
        let loose = (sound.allocations.each k x was).loose in
        let row = grows.items x.item (item_at x.item s) (there-loose x.item s loose) in
        record {
          still_open = h.still_open;
          row = h.row;
          there = h.there;
          suited =
              ap (λ p. is_suited parts bills (build_at m b).part o p h.row) (ap (λ i. (item_of i).part) row.1 ∙ row.2)
              ∙ h.suited;
          output_is = output-is m o s after.books.stock (stays x.item m l o h) h.output_is;
          needed = needed m l x.item o h;
        }

    spent-same : (x : Spent) → IsSoundSpent parts bills b x → IsSoundSpent parts bills after x
    spent-same x h = record {
      still_open = h.still_open;
      row = h.row;
      there = h.there;
      suited = h.suited;
      some = h.some;
      within = h.within;
    }

    pub sound-spent : AreSoundBooks is_order parts bills after × Grows b.books after.books
    sound-spent = (
      record {
        stock = stock;
        allocations = allocations;
        builds = record {
          rows = right-later (λ (y : Build). y.number) b.books.counter.next counter.next b.builds grows.numbers
              sound.builds.rows;
          each_build =
              λ k y at. let h = sound.builds.each_build k y at in
              record {
                part = h.part;
                some = h.some;
                fits = h.fits;
                within = omega (arith, h.within, uses.1.sums y.number);
              };
          each_output =
              outputs-left parts bills b after counter.next stock.items.rows sound.builds.each_output outputs-stay;
          each_allocation = each-allocation;
          spending = record {
            rows = spent.rows;
            each = λ k x at. spent-same x (spent.each k x at);
            once = spent.once;
          };
        };
      },
      grows,
    )

  -- ---- what is spent on the line

  -- of its build and its line there is so much
  spent-sound : (x : Spent) → x.build ≡ build → x.line ≡ line → 1 ≤ x.quantity
      → x.quantity ≤ wanted_whole meant.row (build_at build b) → IsSoundSpent parts bills b x
  spent-sound x of on some within =
      let counted =
      and_parts (is_effective parts (build_at build b).part meant.row && not meant.row.flags.consumable
      && is_named_right parts meant.row None)
      (fits parts bills meant.row (part_at a.item s)) meant.suited in
      let named =
      and_parts (is_effective parts (build_at build b).part meant.row && not meant.row.flags.consumable)
      (is_named_right parts meant.row None) counted.0 in
      let mine =
      and_parts (is_effective parts (build_at build b).part meant.row)
      (not meant.row.flags.consumable) named.0 in
      let suited : is_untracked_of parts (build_at build b).part meant.row ≡ true =
      and_both (is_effective parts (build_at build b).part meant.row) (is_untracked parts meant.row) mine.0
      (untracked-of (is_trackable (part_in meant.row.component parts)) (not meant.row.flags.consumable) mine.1 named.1) in
      let wants : wanted_whole meant.row (build_at x.build b) ≡ wanted_whole meant.row (build_at build b) =
      ap (λ i. wanted_whole meant.row (build_at i b)) of in
      record {
        still_open = ap (λ i. is_open (build_at i b).state) of ∙ meant.still_open;
        row = meant.row;
        there = ap (λ i. line_in i bills) on ∙ meant.there;
        suited = ap (λ i. is_untracked_of parts (build_at i b).part meant.row) of ∙ suited;
        some = some;
        within = omega (arith, wants, within);
      }

  abbrev next : ℕ
  next = used.books.counter.next

  later-next : b.books.counter.next ≤ next
  later-next = served.leads.grows.numbers

  quantity-some : 1 ≤ a.quantity
  quantity-some = (sound.allocations.each (n ∷ []) a a-there).some

  -- a new row
  new-row : find (is_spent_on build line) (table.values b.spent) ≡ None
      → IsSpent (put_spent (new_spent next build line a.quantity) b.spent) (drawn 1 used.books.counter)
  new-row none = record {
    rows = right-new (λ (x : Spent). x.number) next row b.spent refl (omega (arith, first-some, later-next))
        (right-later (λ (x : Spent). x.number) b.books.counter.next next b.spent later-next sound.builds.spending.rows);
    each = each-insert (IsSoundSpent parts bills b) b.spent (next ∷ []) row
        (spent-sound row refl refl quantity-some (omega (arith, enough))) sound.builds.spending.each;
    once = λ k x at j y bt.
        elim (get-insert_cases b.spent (next ∷ []) row k x at) [
          | inl i ↦ elim (get-insert_cases b.spent (next ∷ []) row j y bt) [
            | inl h ↦ λ of on. ap (λ (z : Spent). z.number) (sym i.1 ∙ h.1)
            | inr h ↦ λ of on. absurd (apart j y h
                (sym of ∙ ap (λ (z : Spent). z.build) (sym i.1)) (sym on ∙ ap (λ (z : Spent). z.line) (sym i.1)))
          ]
          | inr i ↦ elim (get-insert_cases b.spent (next ∷ []) row j y bt) [
            | inl h ↦ λ of on. absurd (apart k x i
                (of ∙ ap (λ (z : Spent). z.build) (sym h.1)) (on ∙ ap (λ (z : Spent). z.line) (sym h.1)))
            | inr h ↦ sound.builds.spending.once k x i j y h
          ]
        ];
    more = λ m k. sum-insert_new (amount_on m k) b.spent (next ∷ []) row
        (right-none (λ (x : Spent). x.number) b.books.counter.next next b.spent sound.builds.spending.rows later-next);
    numbers = omega arith;
    limits = refl;
  }
    where
      row : Spent
      row = new_spent next build line a.quantity

      first-some : 1 ≤ b.books.counter.next
      first-some = sound.stock.items.locations.some

      -- no row that was there is of the line
      apart : (k : List ℕ) (x : Spent) → table.get b.spent k ≡ Some x → x.build ≡ build → x.line ≡ line → ⊥
      apart k x at of on =
          let not_one = find-none (is_spent_on build line) (table.values b.spent) none x (get-Stands b.spent k x at) in
          let one = and_both (x.build == build) (x.line == line) (eq-eqb x.build build of) (eq-eqb x.line line on) in
          let clash : true ≡ false = sym one ∙ not_one in
          cc

  -- the row that is there stands under its number, and has a share of what was spent on the line
  row-here : (r : Spent) → find (is_spent_on build line) (table.values b.spent) ≡ Some r
      → table.get b.spent (r.number ∷ []) ≡ Some r
  row-here r is =
      let at = Stands-get b.spent r (find-some (is_spent_on build line) (table.values b.spent) r is).0 in
      ap (λ k. table.get b.spent k) (sym (sound.builds.spending.rows at.0 r at.1).own) ∙ at.1

  row-share : (r : Spent) → find (is_spent_on build line) (table.values b.spent) ≡ Some r
      → r.quantity ≤ spent_on build line b.spent
  row-share r is =
      let gone = ap (λ o. of_option (amount_on build line) o + sum_by (amount_on build line)
      (table.values (table.remove b.spent (r.number ∷ [])))) (sym (row-here r is))
      ∙ sum-remove (amount_on build line) b.spent (r.number ∷ []) in
      let one = (find-some (is_spent_on build line) (table.values b.spent) r is).1 in
      let amount : amount_on build line r ≡ r.quantity = ap (λ c. if c then r.quantity else 0) one in
      omega (arith, gone, amount)

  -- so much more of it is a number of the code
  pub more-fits : (r : Spent) → spent_row build line b.spent ≡ Some r → r.quantity + a.quantity < 18446744073709551616
  more-fits r is =
      let most = (bill.quantities (line ∷ []) meant.row meant.there).1 in
      let units = (sound.builds.each_build (build ∷ []) (build_at build b) build-row).fits in
      let wants =
      mul-lt meant.row.quantity (build_at build b).quantity 1000000001 1000000001 (omega (arith, most))
      (omega (arith, units)) in
      omega (arith, enough, row-share r is, wants)

  -- the row that is there
  more-row : (r : Spent) → find (is_spent_on build line) (table.values b.spent) ≡ Some r
      → IsSpent (put_spent (with_more a.quantity r) b.spent) used.books.counter
  more-row r is = record {
    rows = right-later (λ (x : Spent). x.number) b.books.counter.next next _ later-next
        (right-changed (λ (x : Spent). x.number) b.books.counter.next r.number now r b.spent here refl
        sound.builds.spending.rows);
    each = each-insert (IsSoundSpent parts bills b) b.spent (r.number ∷ []) now
        (spent-sound now of on (omega (arith, quantity-some)) (omega (arith, enough, has))) sound.builds.spending.each;
    once = λ k x at j y bt same_build same_line.
        let p = old k x at in
        let q = old j y bt in
        p.2 ∙ sound.builds.spending.once p.1.0 p.0 p.1.1 q.1.0 q.0 q.1.1
        (sym p.3 ∙ same_build ∙ q.3) (sym p.4 ∙ same_line ∙ q.4) ∙ sym q.2;
    more = λ m k. (let put = sum-insert (amount_on m k) b.spent (r.number ∷ []) now in
        let gone = ap (λ o. of_option (amount_on m k) o + sum_by (amount_on m k)
        (table.values (table.remove b.spent (r.number ∷ [])))) (sym here)
        ∙ sum-remove (amount_on m k) b.spent (r.number ∷ []) in
        let amounts = amount-more (is_spent_on m k r) r.quantity a.quantity in
        let mine : (if is_spent_on m k r then a.quantity else 0)
        ≡ (if (build == m) && (line == k) then a.quantity else 0) =
        ap (λ i. if (i == m) && (r.line == k) then a.quantity else 0) of
        ∙ ap (λ i. if (build == m) && (i == k) then a.quantity else 0) on in
        omega (arith, put, gone, amounts, mine));
    numbers = omega arith;
    limits = refl;
  }
    where
      now : Spent
      now = with_more a.quantity r

      found : Stands r (table.values b.spent) × (is_spent_on build line r ≡ true)
      found = find-some (is_spent_on build line) (table.values b.spent) r is

      pairs : ((r.build == build) ≡ true) × ((r.line == line) ≡ true)
      pairs = and_parts (r.build == build) (r.line == line) found.1

      of : r.build ≡ build
      of = eqb-true r.build build pairs.0

      on : r.line ≡ line
      on = eqb-true r.line line pairs.1

      here : table.get b.spent (r.number ∷ []) ≡ Some r
      here = row-here r is

      has : r.quantity ≤ spent_on build line b.spent
      has = row-share r is

      -- each row stands for one that was there, of its number, its build and its line
      old : (k : List ℕ) (x : Spent) → table.get (put_spent now b.spent) k ≡ Some x
          → (z : Spent) × ((j : List ℕ) × (table.get b.spent j ≡ Some z)) × (x.number ≡ z.number) × (x.build ≡ z.build)
          × (x.line ≡ z.line)
      old k x at = elim (get-insert_cases b.spent (r.number ∷ []) now k x at) [
        | inl i ↦ (
          r,
          (r.number ∷ [], here),
          ap (λ (z : Spent). z.number) (sym i.1),
          ap (λ (z : Spent). z.build) (sym i.1),
          ap (λ (z : Spent). z.line) (sym i.1),
        )
        | inr i ↦ (x, (k, i), refl, refl, refl)
      ]

  -- ---- the command

  pub sound-consumed : is_full (consume n day b).books ≡ false
      → AreSoundBooks is_order parts bills (consume n day b) × Grows b.books (consume n day b).books
  sound-consumed room = go (spent_row build line b.spent) refl room
    where
      go : (o : Option Spent) → spent_row build line b.spent ≡ o
          → is_full (later (spend_in o next build line a.quantity b.spent) (drawn_for o used.books.counter)).books ≡ false
          → AreSoundBooks is_order parts bills
          (later (spend_in o next build line a.quantity b.spent) (drawn_for o used.books.counter))
          × Grows b.books (later (spend_in o next build line a.quantity b.spent) (drawn_for o used.books.counter)).books
      go None e fits = sound-spent _ _ (new-row e) fits
      go (Some r) e fits = sound-spent _ _ (more-row r e) fits

pub sound-consume : (n : ℕ) (day : CivilDay) (is_order : ℕ → Bool) (parts : Parts) (bills : Bills) (b : BuildBooks)
    → IsSoundBill parts bills b.books.counter.next → AreSoundBooks is_order parts bills b
    → first (consume_checks n day b) ≡ None
    → AreSoundBooks is_order parts bills (consume n day b) × Grows b.books (consume n day b).books
sound-consume n day is_order parts bills b bill sound e =
    let passed = none-holds (consume_checks n day b) e in
    sound-consumed n day is_order parts bills b bill sound (passed NoSuch)
    (not_false (is_for_whole (allocation_at n b).purpose) (passed Mismatch)) (passed Full)
