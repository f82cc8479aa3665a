-- An amount that is taken of a loose item: the other rows stay, what is left or taken is no higher, and outputs stay.
use Rattle.std.proofs.Common.{◌≡◌, ◌⊎◌, inl, inr, ℕ, ◌+◌, ◌-◌, ◌≤◌, Bool, true, false, []}
use Rattle.std.proofs.Common.{◌∷◌, List, Option, Some, None, refl, sym, ap, ◌∙◌, arith, eqb-true}
use Rattle.std.specs.Prelude.{◌==◌, if◌then◌else◌}
use Rattle.std.specs.FinMap as table
use Rattle.std.proofs.lemmas.Bool.{ltb-true}
use Rattle.part_core.specs.Catalogue.{Parts, family}
use Rattle.word_core.specs.Day.{CivilDay}
use Rattle.sheet_core.specs.Sheet.{Table}
use Rattle.sheet_core.proofs.RowLemmas.{right-none, right-number}
use Rattle.sheet_core.proofs.Conditions.{turned}
use Rattle.forest.specs.declared.item.Item.{Item}
use Rattle.forest.specs.Forest.{height, is_at}
use Rattle.yard_core.specs.StockBooks.{StockBooks}
use Rattle.yard_core.specs.Outputs.{LeavesOutputs}
use Rattle.yard_core.specs.Stock.{CanCutItem, IsSound, Stock, height_at, item_at}
use Rattle.yard_core.proofs.Items.{outside}
use Rattle.yard_core.proofs.Keeping.{is_cut_off, leaf_at}
use Rattle.yard_core.proofs.Quiet.{leaves-changed, leaves-more, leaves-new, leaves-none}
use Rattle.yard_core.proofs.QuietMoves.{at-quiet, left-quiet}
use Rattle.yard_core.proofs.Rows.{get-other}
use Rattle.stock_core.specs.ItemTests.{has_more}
use Rattle.stock_core.specs.Sound.{Owners}
use Rattle.stock_core.specs.Steps.{cut_off, take}
use Rattle.stock_core.proofs.Kept.{IsFree}
use Rattle.stock_core.proofs.Plain.{IsPlain, item-at, item_of, refilled}
use Rattle.stock_core.proofs.Steps.{can-cut, piece, piece-cut, serial-one, smaller-cut}
use Rattle.stock_core.proofs.Taking.{there-loose}
use Rattle.stock_core.proofs.Upright.{Upright}
use Rattle.build_core.proofs.Roots.{same-height, tree-cut}

pub record IsApart (n q : ℕ) (b : StockBooks) (t : StockBooks × ℕ) : Type 0 where
  -- the rows of other items are as they were
  pub rows : (k : ℕ) → (k == n) ≡ false → (k == t.1) ≡ false
      → table.get t.0.stock.items (k ∷ []) ≡ table.get b.stock.items (k ∷ [])
  -- another loose item was loose, and is no higher
  pub low : (k : ℕ) → (k == t.1) ≡ false → is_at (item_at k t.0.stock).place ≡ true
      → (is_at (item_at k b.stock).place ≡ true) × (height_at k t.0.stock ≤ height_at k b.stock)
  -- nor is what was taken
  pub piece : height_at t.1 t.0.stock ≤ height_at n b.stock
  -- it is the item itself, or a new one
  pub which : (t.1 ≡ n) ⊎ (table.get b.stock.items (t.1 ∷ []) ≡ None)
  pub quiet : LeavesOutputs b.stock.items t.0.stock.items

module _ (owners : Owners) (parts : Parts) (n q : ℕ) (day : CivilDay) (b : StockBooks) (up : Upright owners parts b)
    (loose : is_at (item_at n b.stock).place ≡ true) (some : 1 ≤ q) (enough : q ≤ (item_at n b.stock).quantity) where
  abbrev s : Stock
  s = b.stock

  abbrev x : Item
  x = item_at n s

  whole : IsApart n q b (b, n)
  whole = record {
    rows = λ k old new. refl;
    low = λ k new e. (e, omega arith);
    piece = omega arith;
    which = inl refl;
    quiet = leaves-none s.items;
  }

  module _ (more : has_more n q s ≡ true) where
    is_there : table.get s.items (n ∷ []) ≡ Some x
    is_there = there-loose n s loose

    plain : IsPlain n s
    plain = record {
      there = is_there;
      loose = loose;
      plain = serial-one n s up.stock is_there loose (λ one. omega (arith, one, ltb-true q x.quantity more, some));
    }

    abbrev m : ℕ
    m = b.counter.next

    can : CanCutItem n q m None s
    can = can-cut owners parts b up n is_there plain q None some enough tt

    own : x.number ≡ n
    own = right-number (λ (i : Item). i.number) m n x s.items up.rows is_there

    absent : table.get s.items (m ∷ []) ≡ None
    absent = right-none (λ (i : Item). i.number) m m s.items up.rows (omega arith)

    abbrev after : StockBooks
    after = cut_off n q None day b

    abbrev smaller : Item
    smaller = refilled (x.quantity - q) x

    no_serial : (t : List ℕ) → None ≡ Some t → IsFree parts (family x.part parts) t s.items
    no_serial t none = cc

    abbrev part : Item
    part = piece owners parts b up n is_there q None can no_serial

    abbrev rest : Table Item
    rest = table.insert s.items (x.number ∷ []) smaller

    is_other : (n == m) ≡ false
    is_other = go (n == m) refl
      where
        go : (c : Bool) → (n == m) ≡ c → c ≡ false
        go false e = refl
        go true e =
            let clash : ◌≡◌ {A = Option Item} (Some x) None =
            sym is_there ∙ ap (λ k. table.get s.items (k ∷ [])) (eqb-true n m e) ∙ absent in
            cc

    row-part : table.get after.stock.items (m ∷ []) ≡ Some part
    row-part = piece-cut owners parts b up n is_there q None can no_serial day

    row-smaller : table.get after.stock.items (n ∷ []) ≡ Some smaller
    row-smaller = smaller-cut owners parts b up n is_there q None can no_serial day

    row-other : (k : ℕ) → (k == n) ≡ false → (k == m) ≡ false
        → table.get after.stock.items (k ∷ []) ≡ table.get s.items (k ∷ [])
    row-other k old new =
        get-other m k part rest (turned k m new)
        ∙ get-other x.number k smaller s.items (ap (λ j. j == k) own ∙ turned k n old)

    sound-after : IsSound after.stock
    sound-after = (is_cut_off n q m None day s up.stock can).0

    -- an item without serial has nothing in it
    bare : (k : ℕ) (y : Item) → table.get after.stock.items (k ∷ []) ≡ Some y → y.lot.serial ≡ None
        → height_at k after.stock ≡ 1
    bare k y row none =
        ap (λ ts. 1 + height ts)
        (leaf_at after.stock.items sound-after.items k (item_at k after.stock) (item-at k y after.stock row)
        (ap (λ o. (item_of o).lot.serial) row ∙ none))

    low : (k : ℕ) → (k == m) ≡ false → is_at (item_at k after.stock).place ≡ true
        → (is_at (item_at k s).place ≡ true) × (height_at k after.stock ≤ height_at k s)
    low k new e = go (k == n) refl
      where
        go : (c : Bool) → (k == n) ≡ c → (is_at (item_at k s).place ≡ true) × (height_at k after.stock ≤ height_at k s)
        go true old =
            let same = eqb-true k n old in
            let one : height_at k after.stock ≡ 1 =
            ap (λ j. height_at j after.stock) same ∙ bare n smaller row-smaller plain.plain in
            (ap (λ j. is_at (item_at j s).place) same ∙ loose, omega (arith, one))
        go false old =
            let row = row-other k old new in
            let was : is_at (item_at k s).place ≡ true = ap (λ o. is_at (item_of o).place) (sym row) ∙ e in
            let tree =
            tree-cut s up.stock k (there-loose k s was) (outside (item_at k s).place was) n q m day can (turned k n old)
            (turned k m new) row in
            (was, omega (arith, same-height k s after.stock tree))

    cut : IsApart n q b (after, m)
    cut = record {
      rows = row-other;
      low = low;
      piece = omega (arith, bare m part row-part refl);
      which = inr absent;
      quiet = leaves-more s.items rest after.stock.items
          (leaves-changed smaller s.items (left-quiet (x.quantity - q) x.place (at-quiet x.place loose)) x
          up.stock.items (ap (λ k. table.get s.items (k ∷ [])) own ∙ is_there) (at-quiet x.place loose))
          (leaves-new part rest (at-quiet x.place loose)
          (get-other x.number m smaller s.items (ap (λ j. j == m) own ∙ is_other) ∙ absent));
    }

  pub taken-apart : IsApart n q b (take n q day b)
  taken-apart = go (has_more n q s) refl
    where
      go : (c : Bool) → has_more n q s ≡ c
          → IsApart n q b (if c then (cut_off n q None day b, b.counter.next) else (b, n))
      go true e = cut e
      go false e = whole
