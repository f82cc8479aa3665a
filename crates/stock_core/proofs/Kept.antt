-- Rows stay under their own numbers, and serials unique, where a row changes and where one comes.
use Rattle.std.proofs.Common.{◌≡◌, ◌⊎◌, inl, inr, ℕ, ◌+◌, ◌≤◌, Bool, true, false, not, List, []}
use Rattle.std.proofs.Common.{◌∷◌, Option, Some, None, refl, sym, ap, ◌∙◌, subst, eqb-true, rules}
use Rattle.std.specs.Prelude.{◌==◌, ◌&&◌}
use Rattle.std.specs.FinMap as table
use Rattle.std.specs.Str.{bytes_eq}
use Rattle.std.proofs.lemmas.Slice.Eq.{bytes_eq-Decides}
use Rattle.part_core.specs.Catalogue.{Parts, family}
use Rattle.word_core.specs.Quantity.{largest}
use Rattle.sheet_core.specs.Rows.{StandRight}
use Rattle.sheet_core.specs.Sheet.{Table}
use Rattle.word_core.specs.declared.status.Status.{Status}
use Rattle.sheet_core.proofs.Conditions.{and_both, and_parts, not_true}
use Rattle.sheet_core.proofs.RowLemmas.{get-insert_cases, right-changed, right-new, same_digit}
use Rattle.forest.specs.declared.item.Item.{Item}
use Rattle.forest.specs.declared.place.Place.{Place}
use Rattle.forest.specs.declared.place.Place.TheVariants.{At, In, Output, Sent, Used, Off, Gone}
use Rattle.forest.specs.Forest.{is_at}
use Rattle.yard_core.specs.Stock.{IsItem, has_serial, holds_serial, is_gone}

-- no serial stands twice in a family, on items of the table that aren't gone
abbrev pub StandOnce : Parts → Table Item → Type 0
StandOnce parts t =
    (serial : List ℕ) (kin : ℕ) (n m : ℕ) (x y : Item) → table.get t (n ∷ []) ≡ Some x → table.get t (m ∷ []) ≡ Some y
    → holds_serial serial kin parts x ≡ true → holds_serial serial kin parts y ≡ true → n ≡ m

-- no item of the table that isn't gone has the serial in the family
abbrev pub IsFree : Parts → ℕ → List ℕ → Table Item → Type 0
IsFree parts kin s t = (m : ℕ) (z : Item) → table.get t (m ∷ []) ≡ Some z → holds_serial s kin parts z ≡ false

-- rows under their own numbers, with serials that stand once
pub record Tidy (parts : Parts) (next : ℕ) (t : Table Item) : Type 0 where
  pub rows : StandRight (λ i. i.number) next t
  pub once : StandOnce parts t

-- an item of another status and quantity at another place
abbrev pub changed_to : Status → ℕ → Place → Item → Item
changed_to status quantity place x =
    record {
      number = x.number;
      part = x.part;
      lot = record { batch = x.lot.batch; serial = x.lot.serial; status = status };
      quantity = quantity;
      place = place;
    }

-- an item with another serial
abbrev with_serial : Option (List ℕ) → Item → Item
with_serial o x = record x { lot = record x.lot { serial = o } }

-- what is loose isn't gone
pub stays-loose : (l : Place) → is_at l ≡ true → is_gone l ≡ false
stays-loose (At l) e = refl
stays-loose (In l) e = cc
stays-loose (Output l) e = cc
stays-loose (Sent l) e = cc
stays-loose (Used l) e = cc
stays-loose (Off l) e = cc
stays-loose Gone e = cc

-- what isn't gone has 1 to the largest quantity
pub bounds-there : (x : Item) → is_gone x.place ≡ false → IsItem x → (1 ≤ x.quantity) × (x.quantity ≤ largest)
bounds-there x in_use = by_place x.place in_use
  where
    by_place : (l : Place) → is_gone l ≡ false → IsItem (changed_to x.lot.status x.quantity l x)
        → (1 ≤ x.quantity) × (x.quantity ≤ largest)
    by_place (At l) e h = (h.0, h.1)
    by_place (In l) e h = (h.0, h.1)
    by_place (Output l) e h = (h.0, h.1)
    by_place (Sent l) e h = (h.0, h.1)
    by_place (Used l) e h = (h.0, h.1)
    by_place (Off l) e h = (h.0, h.1)
    by_place Gone e h = cc

-- an item without serial holds none
pub plain-holds : (parts : Parts) (s : List ℕ) (kin : ℕ) (x : Item) → x.lot.serial ≡ None
    → holds_serial s kin parts x ≡ false
plain-holds parts s kin x e = rw e (go (not (is_gone x.place)))
  where
    go : (a : Bool) → (a && false && (family x.part parts == kin)) ≡ false
    go true = refl
    go false = refl

module _ (parts : Parts) (next : ℕ) (t : Table Item) (tidy : Tidy parts next t) where
  -- ---- another row in the place of one that isn't gone, of its part and serial

  module _ (old : Item) (there : table.get t (old.number ∷ []) ≡ Some old) (in_use : is_gone old.place ≡ false)
      (status : Status) (quantity : ℕ) (place : Place) where
    abbrev x : Item
    x = changed_to status quantity place old

    held : (s : List ℕ) (kin : ℕ) → holds_serial s kin parts x ≡ true → holds_serial s kin parts old ≡ true
    held s kin e =
        let both = and_parts (not (is_gone place) && has_serial s x) (family old.part parts == kin) e in
        let own = (and_parts (not (is_gone place)) (has_serial s x) both.0).1 in
        and_both (not (is_gone old.place) && has_serial s old) (family old.part parts == kin)
        (and_both (not (is_gone old.place)) (has_serial s old) (ap not in_use) own) both.1

    once : StandOnce parts (table.insert t (old.number ∷ []) x)
    once s kin a b y z ea eb hy hz =
        go (get-insert_cases t (old.number ∷ []) x (a ∷ []) y ea) (get-insert_cases t (old.number ∷ []) x (b ∷ []) z eb)
      where
        as_old : (w : Item) → x ≡ w → holds_serial s kin parts w ≡ true → holds_serial s kin parts old ≡ true
        as_old w e h = held s kin (ap (holds_serial s kin parts) e ∙ h)

        go : ((a ∷ [] ≡ old.number ∷ []) × (x ≡ y)) ⊎ (table.get t (a ∷ []) ≡ Some y)
            → ((b ∷ [] ≡ old.number ∷ []) × (x ≡ z)) ⊎ (table.get t (b ∷ []) ≡ Some z) → a ≡ b
        go (inl i) (inl j) = same_digit a old.number i.0 ∙ sym (same_digit b old.number j.0)
        go (inl i) (inr j) =
            same_digit a old.number i.0 ∙ tidy.once s kin old.number b old z there j (as_old y i.1 hy) hz
        go (inr i) (inl j) =
            tidy.once s kin a old.number y old i there hy (as_old z j.1 hz) ∙ sym (same_digit b old.number j.0)
        go (inr i) (inr j) = tidy.once s kin a b y z i j hy hz

    pub tidy-changed : Tidy parts next (table.insert t (old.number ∷ []) x)
    tidy-changed = record {
      rows = right-changed (λ (i : Item). i.number) next old.number x old t there refl tidy.rows;
      once = once;
    }

    -- a serial that no item had is free beside the row too, where that has none
    pub free-changed : old.lot.serial ≡ None → (kin : ℕ) (s : List ℕ) → IsFree parts kin s t
        → IsFree parts kin s (table.insert t (old.number ∷ []) x)
    free-changed plain kin s was m z e = elim (get-insert_cases t (old.number ∷ []) x (m ∷ []) z e) [
      | inl i ↦ ap (holds_serial s kin parts) (sym i.1) ∙ plain-holds parts s kin x plain
      | inr i ↦ was m z i
    ]

  -- ---- a row under the next number, with a serial that is free or none

  module _ (x : Item) (number : x.number ≡ next) (some : 1 ≤ next)
      (free : (s : List ℕ) → x.lot.serial ≡ Some s → IsFree parts (family x.part parts) s t) where
    -- what the new item holds is its own serial, in its own family
    held_new : (s : List ℕ) (kin : ℕ) → holds_serial s kin parts x ≡ true
        → (x.lot.serial ≡ Some s) × (family x.part parts ≡ kin)
    held_new s kin e =
        let both = and_parts (not (is_gone x.place) && has_serial s x) (family x.part parts == kin) e in
        (by_serial x.lot.serial (and_parts (not (is_gone x.place)) (has_serial s x) both.0).1, eqb-true _ _ both.1)
      where
        same : (a b : List ℕ) → bytes_eq a b ≡ true → a ≡ b
        same a b h = search (rules, bytes_eq-Decides)

        by_serial : (o : Option (List ℕ)) → has_serial s (with_serial o x) ≡ true → o ≡ Some s
        by_serial None h = cc
        by_serial (Some own) h = ap (λ l. Some l) (same own s h)

    clash : (s : List ℕ) (kin m : ℕ) (z w : Item) → x ≡ w → table.get t (m ∷ []) ≡ Some z
        → holds_serial s kin parts w ≡ true → holds_serial s kin parts z ≡ true → ⊥
    clash s kin m z w same e hw hz =
        let own = held_new s kin (ap (holds_serial s kin parts) same ∙ hw) in
        let none : holds_serial s kin parts z ≡ false =
        subst (λ k. holds_serial s k parts z ≡ false) own.1 (free s own.0 m z e) in
        let both : true ≡ false = sym hz ∙ none in
        cc

    once_new : StandOnce parts (table.insert t (next ∷ []) x)
    once_new s kin a b y z ea eb hy hz =
        go (get-insert_cases t (next ∷ []) x (a ∷ []) y ea) (get-insert_cases t (next ∷ []) x (b ∷ []) z eb)
      where
        go : ((a ∷ [] ≡ next ∷ []) × (x ≡ y)) ⊎ (table.get t (a ∷ []) ≡ Some y)
            → ((b ∷ [] ≡ next ∷ []) × (x ≡ z)) ⊎ (table.get t (b ∷ []) ≡ Some z) → a ≡ b
        go (inl i) (inl j) = same_digit a next i.0 ∙ sym (same_digit b next j.0)
        go (inl i) (inr j) = absurd (clash s kin b z y i.1 j hy hz)
        go (inr i) (inl j) = absurd (clash s kin a y z j.1 i hz hy)
        go (inr i) (inr j) = tidy.once s kin a b y z i j hy hz

    pub tidy-new : Tidy parts (next + 1) (table.insert t (next ∷ []) x)
    tidy-new = record { rows = right-new (λ (i : Item). i.number) next x t number some tidy.rows; once = once_new }

    -- a serial that was free, and isn't the new item's, is still free
    pub free-new : (kin : ℕ) (s : List ℕ) → (x.lot.serial ≡ Some s → ⊥) → IsFree parts kin s t
        → IsFree parts kin s (table.insert t (next ∷ []) x)
    free-new kin s other was m z e = elim (get-insert_cases t (next ∷ []) x (m ∷ []) z e) [
      | inl i ↦ not_true _ (λ h. other (held_new s kin (ap (holds_serial s kin parts) i.1 ∙ h)).0)
      | inr i ↦ was m z i
    ]
