-- The books of a sound state are in order, a sound state steps to one, and a refusal changes nothing.
use Rattle.std.proofs.Common.{◌≡◌, ◌≤◌, ℕ, Bool, true, false, List, [], ◌∷◌, Option, Some, None, Err, refl, sym, ap}
use Rattle.std.proofs.Common.{◌∙◌, subst, arith, is_ok, true≢false}
use Rattle.std.specs.Prelude.{◌==◌, if◌then◌else◌, IsSome, IsSomeAnd, IfSome}
use Rattle.std.specs.FinMap as table
use Rattle.sheet_core.specs.Rows.{EachRow}
use Rattle.sheet_core.specs.Sheet.{Table}
use Rattle.part_core.specs.Catalogue.{Parts}
use Rattle.word_core.specs.declared.answer.Answer.{Answer}
use Rattle.word_core.specs.declared.refusal.Refusal.{Refusal}
use Rattle.bom_core.specs.Bills.{Bills}
use Rattle.bom_core.specs.declared.line.Line.{Line}
use Rattle.forest.specs.Rows.{row_at}
use Rattle.forest.specs.declared.item.Item.{Item}
use Rattle.forest.specs.declared.place.Place.{Place}
use Rattle.forest.specs.declared.place.Place.TheVariants.{At, In, Output, Sent, Used, Off, Gone}
use Rattle.yard_core.specs.Stock.{AreHeld, IsHeld, IsHolder, IsItem, IsItemTable, may_hold}
use Rattle.yard_core.proofs.Items.{good_item}
use Rattle.yard_core.proofs.Rows.{get-row_at}
use Rattle.alloc_core.specs.Allocations.{allocated_for_line}
use Rattle.build_core.specs.Builds.{BuildBooks, build_at}
use Rattle.build_core.specs.Needs.{line_in, required}
use Rattle.build_core.specs.Sound.{IsSoundFor}
use Rattle.desk_core.specs.Books.{AreInOrder, HaveDrawnNumbers, IsWithinWish, RunsStaySound, StepsStaySound}
use Rattle.desk_core.specs.Machine.{State, IsSoundState, by_check, by_repeat, check, effect, repeated, step}
use Rattle.desk_core.proofs.SpentInAll.{spent-in_all}
use Rattle.desk_core.proofs.Steps.{step-sound}
use Rattle.desk_core.specs.declared.command.Request.{Request}

-- ---- what lies in an item

-- the row of a number is among the rows
held-at : (t : Table Item) (n : ℕ) (xs : List Item) (x : Item) → AreHeld t xs → row_at n xs ≡ Some x → IsHeld t x
held-at t n [] x all e = cc
held-at t n (y ∷ ys) x all e = go (y.number == n) e (held-at t n ys x all.1)
  where
    go : (b : Bool) → (if b then Some y else row_at n ys) ≡ Some x → (row_at n ys ≡ Some x → IsHeld t x) → IsHeld t x
    go true e ih = let same : y ≡ x = cc in subst (IsHeld t) same all.0
    go false e ih = ih e

single : (q : Place) (x : Item) → may_hold q ≡ true
    → IsItem (record { number = x.number; part = x.part; lot = x.lot; quantity = x.quantity; place = q })
    → IfSome x.lot.serial (λ _. x.quantity ≡ 1)
single (At l) x may good = good.2
single (In m) x may good = good.2
single (Output b) x may good = good.2
single (Sent o) x may good = good.2
single (Used b) x may good = good.2
single (Off reason) x may good = good.2
single Gone x may good = absurd (true≢false (sym may))

if-serial : (serial : Option (List ℕ)) (quantity : ℕ) → IsSome serial → IfSome serial (λ _. quantity ≡ 1) → quantity ≡ 1
if-serial (Some serial) quantity there one = one
if-serial None quantity there one = absurd (let e : false ≡ true = there in cc)

holder-of : (t : Table Item) (m : ℕ) (found : Option Item) → IsItemTable t → table.get t (m ∷ []) ≡ found
    → IsSomeAnd found IsHolder
    → (holder : Item) × (table.get t (m ∷ []) ≡ Some holder) × IsSome holder.lot.serial × (holder.quantity ≡ 1)
holder-of t m None right is held = absurd held
holder-of t m (Some y) right is held = (
  y,
  is,
  held.serialised,
  if-serial y.lot.serial y.quantity held.serialised (single y.place y held.placed (good_item t m y right is)),
)

lies_in_one : (t : Table Item) (x : Item) → IsItemTable t → table.get t (x.number ∷ []) ≡ Some x → (m : ℕ)
    → x.place ≡ In m
    → (holder : Item) × (table.get t (m ∷ []) ≡ Some holder) × IsSome holder.lot.serial × (holder.quantity ≡ 1)
lies_in_one t x right is m inside =
    let held = held-at t x.number (table.values t) x right.held (sym (get-row_at t x.number right.own) ∙ is) in
    holder-of t m (table.get t (m ∷ [])) right refl (subst (IsIn t x) inside held)
  where
    IsIn : Table Item → Item → Place → Type 0
    IsIn t x q = IsHeld t (record { number = x.number; part = x.part; lot = x.lot; quantity = x.quantity; place = q })

-- ---- the books of a sound state

needed-of : {parts : Parts} {bills : Bills} {b : BuildBooks} {item build line : ℕ} {output : Option ℕ}
    → IsSoundFor parts bills b item build line output
    → (row : Line) × (line_in line bills ≡ Some row)
    × (allocated_for_line build line output b.allocations ≤ required row (build_at build b) output b.spent
    b.books.stock)
needed-of h = (h.row, h.there, h.needed)

within-wish : (s : State) → IsSoundState s → EachRow (IsWithinWish s) s.spent
within-wish s sound k x is =
    let spending = sound.builds.spending in
    let h = spending.each k x is in
    (h.row, h.there, omega (arith, spent-in_all s.spent s.counter.next spending.rows spending.once k x is, h.within))

have_drawn_numbers : (s : State) → IsSoundState s → HaveDrawnNumbers s
have_drawn_numbers s sound = record {
  categories = sound.bills.catalogue.categories;
  parts = sound.bills.catalogue.parts;
  lines = sound.bills.line_rows;
  substitutes = sound.bills.substitute_rows;
  locations = sound.stock.items.locations.rows;
  items = sound.stock.items.rows;
  allocations = sound.allocations.rows;
  orders = sound.orders.orders;
  order_lines = sound.orders.lines;
  builds = sound.builds.rows;
  spent = sound.builds.spending.rows;
}

pub in_order : (s : State) → IsSoundState s → AreInOrder s
in_order s sound = record {
  counted = sound.stock.items.stock.items.flat;
  contents = λ k x is.
      lies_in_one s.stock.items x sound.stock.items.stock.items
      (subst (λ key. table.get s.stock.items key ≡ Some x) (sound.stock.items.rows k x is).own is);
  balanced = sound.stock.items.stock.balanced;
  allocated = sound.allocations.within;
  loose = λ k a is. (sound.allocations.each k a is).loose;
  ordered = λ k l is. (sound.orders.each_line k l is).needed;
  needed = λ k a is build line output for. needed-of (sound.builds.each_allocation k a is build line output for);
  spent = within-wish s sound;
  made = λ k b is. (sound.builds.each_build k b is).within;
  serials = sound.stock.once;
  acyclic = sound.bills.acyclic;
  substitutes = sound.bills.once;
  substituted = sound.bills.needed;
  next = sound.next;
  numbers = have_drawn_numbers s sound;
  entries = sound.stock.items.within;
}

-- ---- steps and runs

pub steps_stay_sound : StepsStaySound
steps_stay_sound s r sound key = step-sound s sound r key

pub runs_stay_sound : RunsStaySound
runs_stay_sound s [] sound keys = sound
runs_stay_sound s (r ∷ rs) sound keys = runs_stay_sound (step s r).0 rs (step-sound s sound r keys.0) keys.1

-- ---- refusals

refused-anew : (o : Option Refusal) (s : State) (r : Request) (after : State) (why : Refusal)
    → (by_check o s r after).1 ≡ Err why → (by_check o s r after).0 ≡ s
refused-anew (Some refusal) s r after why is = refl
refused-anew None s r after why is = absurd (true≢false (ap is_ok is))

refused : (kept : Option Answer) (s : State) (r : Request) (why : Refusal)
    → (by_repeat kept s (by_check (check s r) s r (effect s r.day r.command))).1 ≡ Err why
    → (by_repeat kept s (by_check (check s r) s r (effect s r.day r.command))).0 ≡ s
refused (Some answer) s r why is = refl
refused None s r why is = refused-anew (check s r) s r (effect s r.day r.command) why is

pub refusals_change_nothing : (s : State) (r : Request) (why : Refusal) → (step s r).1 ≡ Err why → (step s r).0 ≡ s
refusals_change_nothing s r why is = refused (repeated r s) s r why is
