-- What tests of each row say of allocations.
use Rattle.std.proofs.Common.{◌≡◌, ◌↔◌, ℕ, ◌≤◌, Bool, true, false, not, ◌||◌, ◌∷◌, []}
use Rattle.std.proofs.Common.{Option, Some, None, refl, sym, ap, ◌∙◌, subst, arith, eqb-true}
use Rattle.std.specs.Prelude.{◌==◌, nat_lt, unwrap_or}
use Rattle.std.specs.FinMap as table
use Rattle.std.proofs.lemmas.Bool.{eqb-false, ltb-true, ltb-false}
use Rattle.std.proofs.lemmas.Bool.Decides.{nat_tests}
use Rattle.sheet_core.specs.Filled.{StandUnderKeys}
use Rattle.word_core.specs.Quantity.{is_bad_quantity, largest}
use Rattle.sheet_core.specs.Rows.{EachRow}
use Rattle.sheet_core.specs.Sheet.{Table}
use Rattle.sheet_core.proofs.Conditions.{and_both, and_parts}
use Rattle.sheet_core.proofs.RowLemmas.{same_digit}
use Rattle.sheet_core.proofs.Standing.{each-value}
use Rattle.forest.specs.Forest.{is_at}
use Rattle.forest.specs.declared.item.Item.{Item}
use Rattle.yard_core.specs.Stock.{Stock, item_at, no_item}
use Rattle.alloc_core.specs.Allocations.{allocated}
use Rattle.alloc_core.specs.RowTests.{is_covered, is_sound_row}
use Rattle.alloc_core.specs.Sound.{IsSoundAllocation}
use Rattle.alloc_core.specs.declared.allocation.Allocation.{Allocation}
use Rattle.alloc_core.proofs.Covers.{AreSound, all-sound, sum-away}

-- a quantity in its range
pub quantity-is : (q : ℕ) → (not (is_bad_quantity q) ≡ true) ↔ ((1 ≤ q) × (q ≤ largest))
quantity-is q = go (q == 0) refl (nat_lt largest q) refl
  where
    go : (a : Bool) → (q == 0) ≡ a → (b : Bool) → nat_lt largest q ≡ b
        → (not (a || b) ≡ true) ↔ ((1 ≤ q) × (q ≤ largest))
    go true e b f = (λ h. cc, λ h. absurd (let none = eqb-true _ _ e in let some = h.0 in omega arith))
    go false e true f = (λ h. cc, λ h. absurd (let more = ltb-true _ _ f in let less = h.1 in omega arith))
    go false e false f = (λ h. ((let some = eqb-false _ _ e in omega arith), ltb-false _ _ f), λ h. refl)

pub sound_row-is : (s : Stock) (a : Allocation) → (is_sound_row s a ≡ true) ↔ IsSoundAllocation s a
sound_row-is s a = (
  λ e.
      let both = and_parts (not (is_bad_quantity a.quantity)) _ e in
      let range = (quantity-is a.quantity).0 both.0 in
      record { some = range.0; fits = range.1; loose = both.1 },
  λ h. and_both _ _ ((quantity-is a.quantity).1 (h.some, h.fits)) h.loose,
)

pub covered-is : (t : Table Allocation) (x : Item) → (is_covered t x ≡ true) ↔ (allocated x.number t ≤ x.quantity)
covered-is t x = (λ e. grind (arith, nat_tests, e), λ h. grind (arith, nat_tests, h))

-- ---- each item has what is allocated of it

module _ (t : Table Allocation) (s : Stock) (own : StandUnderKeys (λ (x : Item). x.number ∷ []) s.items) where
  -- an item that isn't there has no allocations, where each allocation's item is loose
  pub within-all : EachRow (IsSoundAllocation s) t → EachRow (λ x. allocated x.number t ≤ x.quantity) s.items → (n : ℕ)
      → allocated n t ≤ (item_at n s).quantity
  within-all each covered n = go (table.get s.items (n ∷ [])) refl
    where
      rows : AreSound s (table.values t)
      rows = all-sound s (table.values t) (λ a h. each-value (IsSoundAllocation s) t each a h)

      item_of : Option Item → Item
      item_of o = unwrap_or o no_item

      go : (o : Option Item) → table.get s.items (n ∷ []) ≡ o → allocated n t ≤ (item_at n s).quantity
      go None e =
          let away : is_at (item_at n s).place ≡ false = ap (λ o. is_at (item_of o).place) e in
          let none = sum-away s n (table.values t) rows away in
          omega (arith, none)
      go (Some x) e =
          let number : x.number ≡ n = same_digit _ _ (sym (own (n ∷ []) x e)) in
          let here : allocated n t ≤ x.quantity =
          subst (λ m. allocated m t ≤ x.quantity) number (covered (n ∷ []) x e) in
          let is : (item_at n s).quantity ≡ x.quantity = ap (λ o. (item_of o).quantity) e in
          omega (arith, here, is)

  pub covered-each : ((n : ℕ) → allocated n t ≤ (item_at n s).quantity)
      → EachRow (λ x. allocated x.number t ≤ x.quantity) s.items
  covered-each within k x e =
      let key : k ≡ x.number ∷ [] = own k x e in
      let there : table.get s.items (x.number ∷ []) ≡ Some x = ap (table.get s.items) (sym key) ∙ e in
      let is : (item_at x.number s).quantity ≡ x.quantity =
      ap (λ (o : Option Item). (unwrap_or o no_item).quantity) there in
      let here = within x.number in
      omega (arith, here, is)
