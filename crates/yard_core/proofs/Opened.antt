-- From what the checks find, row by row, to what is sound.
use Rattle.std.proofs.Common.{◌≡◌, ℕ, ◌<◌, ◌≤◌, Bool, true, false, cond, List, [], ◌∷◌, refl, nat_cmp, subst, IsTrue}
use Rattle.std.specs.Prelude.{nat_lt, ◌==◌, ◌↔◌}
use Rattle.std.specs.FinMap as table
use Rattle.std.specs.List.{All}
use Rattle.std.specs.Ordering.{ordering_then}
use Rattle.std.specs.declared.cmp.Ordering.{Ordering}
use Rattle.std.specs.declared.cmp.Ordering.TheVariants.{Less, Equal, Greater}
use Rattle.std.proofs.lemmas.Bool.{ltb-true}
use Rattle.sheet_core.specs.Filled.{StandUnderKeys}
use Rattle.sheet_core.specs.Sheet.{Table, key_cmp}
use Rattle.sheet_core.proofs.Selects.{AreAbove, Rises}
use Rattle.forest.specs.declared.entry.Entry.{Entry}
use Rattle.forest.specs.declared.item.Item.{Item}
use Rattle.yard_core.specs.Climbs as climbs
use Rattle.yard_core.specs.Opening.{AreSoundRows}
use Rattle.yard_core.specs.SoundLocations.{AreSoundLocations, IsSoundLocation}
use Rattle.yard_core.specs.Stock.{Stock, IsHistory, IsSound}
use Rattle.part_core.specs.declared.named_row.NamedRow.{NamedRow as Location}
use Rattle.yard_core.proofs.ByIndex.{all-each}
use Rattle.yard_core.proofs.OwnKeys.{own-keyed}
use Rattle.yard_core.proofs.Rows.{any, by_number, by_number-rises}

-- ---- rows in order of number

less_number : (n m : ℕ) → key_cmp (n ∷ []) (m ∷ []) ≡ Less → n < m
less_number n m e = go (nat_lt n m) refl (n == m) (then_is (nat_cmp n m) e)
  where
    then_is : (r : Ordering) → ordering_then r Equal ≡ Less → r ≡ Less
    then_is Less e = refl
    then_is Equal e = cc
    then_is Greater e = cc

    go : (b : Bool) → nat_lt n m ≡ b → (c : Bool) → cond b Less (cond c Equal Greater) ≡ Less → n < m
    go true t c e = ltb-true _ _ t
    go false t true e = cc
    go false t false e = cc

numbers_above : (n : ℕ) (xs : List Item) → AreAbove any (n ∷ []) (by_number xs) → climbs.AreAbove n xs
numbers_above n [] a = tt
numbers_above n (x ∷ xs) a = (less_number n x.number a.0, numbers_above n xs a.1)

numbers_rise : (xs : List Item) → Rises any (by_number xs) → climbs.IsByNumber xs
numbers_rise [] r = tt
numbers_rise (x ∷ xs) r = (numbers_above x.number xs r.0, numbers_rise xs r.1)

-- items under their own numbers are in order of number
pub rows_by_number : (t : Table Item) → table.entries t ≡ by_number (table.values t)
    → climbs.IsByNumber (table.values t)
rows_by_number t own = numbers_rise (table.values t) (by_number-rises t own)

pub own_by_number : (t : Table Item) → StandUnderKeys (λ (i : Item). i.number ∷ []) t
    → climbs.IsByNumber (table.values t)
own_by_number t own = rows_by_number t (own-keyed (λ (i : Item). i.number) t own)

-- ---- the whole

abbrev Decides : Bool → Type 0 → Type 0
Decides b P = IsTrue b ↔ P

-- an answer on one thing is one on another that is the same, and on what is so exactly where that is
decides_also : {P Q : Type 0} (b : Bool) → Decides b P → P ↔ Q → Decides b Q
decides_also b d e = (λ t. e.0 (d.0 t), λ q. d.1 (e.1 q))

pub sound_iff : (s : Stock) → StandUnderKeys (λ i. i.number ∷ []) s.items → IsHistory s.history
    → AreSoundRows s.items (table.values s.items) (table.values s.history) ↔ IsSound s
sound_iff s items history = (
  λ a. record {
    items = record { flat = a.flat; own = own-keyed (λ i. i.number) s.items items; items = a.items; held = a.held };
    history = history;
    balanced = a.balanced;
  },
  λ b. record {
    items = b.items.items;
    held = b.items.held;
    flat = b.items.flat;
    balanced = b.balanced;
  },
)

pub locations_iff : (next : ℕ) (s : Stock) → 1 ≤ next → StandUnderKeys (λ l. l.number ∷ []) s.locations
    → All (IsSoundLocation next s) (table.values s.locations) ↔ AreSoundLocations next s
locations_iff next s some own = (
  λ all. let each = (all-each (IsSoundLocation next s) s.locations).0 all in record {
    some = some;
    rows = λ k l at. let row = each k l at in record { own = own k l at; some = row.some; drawn = row.drawn };
    parents = λ k l at. (each k l at).parent;
  },
  λ sound. (all-each (IsSoundLocation next s) s.locations).1
      (λ k l at. let row = sound.rows k l at in
      record { some = row.some; drawn = row.drawn; parent = sound.parents k l at }),
)

-- what was found of rows that are those of the tables
pub sound_from : (s : Stock) → StandUnderKeys (λ i. i.number ∷ []) s.items → IsHistory s.history
    → (t : Table Item) (rows : List Item) (entries : List Entry) (sound : Bool) → t ≡ s.items
    → rows ≡ table.values s.items → entries ≡ table.values s.history
    → IsTrue sound ↔ AreSoundRows t rows entries → IsTrue sound ↔ IsSound s
sound_from s items history t rows entries sound same_t same_rows same_entries d =
    let in_t = subst (λ u. Decides sound (AreSoundRows u rows entries)) same_t d in
    let in_rows = subst (λ xs. Decides sound (AreSoundRows s.items xs entries)) same_rows in_t in
    let in_entries =
    subst (λ es. Decides sound (AreSoundRows s.items (table.values s.items) es)) same_entries in_rows in
    decides_also sound in_entries (sound_iff s items history)

pub locations_from : (next : ℕ) (s : Stock) → 1 ≤ next → StandUnderKeys (λ l. l.number ∷ []) s.locations
    → (rows : List Location) (sound : Bool) → rows ≡ table.values s.locations
    → IsTrue sound ↔ All (IsSoundLocation next s) rows → IsTrue sound ↔ AreSoundLocations next s
locations_from next s some own rows sound same d =
    decides_also sound (subst (λ xs. Decides sound (All (IsSoundLocation next s) xs)) same d)
    (locations_iff next s some own)
