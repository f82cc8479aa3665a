-- Loose items without serial, before and after another item changed.
use Rattle.std.proofs.Common.{◌≡◌, ℕ, ◌≤◌, Bool, true, false, not, [], ◌∷◌, is_none, is_some}
use Rattle.std.proofs.Common.{List, refl, sym, ap, ◌∙◌, arith, Option, Some, None, eqb-true}
use Rattle.std.specs.Prelude.{◌==◌, if◌then◌else◌, unwrap_or}
use Rattle.std.specs.FinMap as table
use Rattle.sheet_core.proofs.Conditions.{not_false}
use Rattle.forest.specs.declared.item.Item.{Item}
use Rattle.forest.specs.declared.place.Place.{Place}
use Rattle.forest.specs.declared.place.Place.TheVariants.{Gone}
use Rattle.forest.specs.Forest.{is_at}
use Rattle.forest.specs.Moves.{largest, place_left}
use Rattle.yard_core.specs.Stock.{IsSound, Stock, item_at, no_item}
use Rattle.yard_core.proofs.Keeping.{bounds_at, good_at}
use Rattle.stock_core.specs.ItemTests.{is_loose, is_no_item, is_serialised}
use Rattle.stock_core.proofs.Kept.{changed_to}

-- a loose item without serial
pub record IsPlain (n : ℕ) (s : Stock) : Type 0 where
  pub there : table.get s.items (n ∷ []) ≡ Some (item_at n s)
  pub loose : is_at (item_at n s).place ≡ true
  pub plain : (item_at n s).lot.serial ≡ None

abbrev pub item_of : Option Item → Item
item_of o = unwrap_or o no_item

-- a loose leaf of another quantity: it is gone where that is 0
abbrev pub refilled : ℕ → Item → Item
refilled q x = changed_to x.lot.status q (place_left q x.place) x

pub there-checked : (o : Option Item) → is_none o ≡ false → o ≡ Some (item_of o)
there-checked None e = cc
there-checked (Some x) e = refl

pub no-serial : (o : Option (List ℕ)) → is_some o ≡ false → o ≡ None
no-serial None e = refl
no-serial (Some x) e = cc

-- what passes these checks is plain
pub plain-checked : (n : ℕ) (s : Stock) → is_no_item n s ≡ false → not (is_loose n s) ≡ false
    → is_serialised n s ≡ false → IsPlain n s
plain-checked n s there loose plain = record {
  there = there-checked (table.get s.items (n ∷ [])) there;
  loose = not_false (is_loose n s) loose;
  plain = no-serial (item_at n s).lot.serial plain;
}

-- another item's row is as it was
pub plain-same : (n : ℕ) (s t : Stock) → table.get t.items (n ∷ []) ≡ table.get s.items (n ∷ []) → IsPlain n s
    → IsPlain n t
plain-same n s t same h = record {
  there = same ∙ h.there ∙ ap (λ o. Some (item_of o)) (sym same);
  loose = ap (λ o. is_at (item_of o).place) same ∙ h.loose;
  plain = ap (λ o. (item_of o).lot.serial) same ∙ h.plain;
}

-- the row that is there is the item of the number
pub item-at : (n : ℕ) (x : Item) (t : Stock) → table.get t.items (n ∷ []) ≡ Some x
    → table.get t.items (n ∷ []) ≡ Some (item_at n t)
item-at n x t is = is ∙ ap (λ o. Some (item_of o)) (sym is)

pub left-loose : (q : ℕ) (l : Place) → 1 ≤ q → is_at l ≡ true → is_at (place_left q l) ≡ true
left-loose q l some loose = go (q == 0) refl
  where
    go : (b : Bool) → (q == 0) ≡ b → is_at (if b then Gone else l) ≡ true
    go true e = absurd (omega (arith, eqb-true q 0 e, some))
    go false e = loose

-- the row has another quantity, but isn't gone
pub plain-refilled : (n q : ℕ) (x : Item) (t : Stock) → table.get t.items (n ∷ []) ≡ Some (refilled q x) → 1 ≤ q
    → is_at x.place ≡ true → x.lot.serial ≡ None → IsPlain n t
plain-refilled n q x t is some loose plain = record {
  there = item-at n (refilled q x) t is;
  loose = ap (λ o. is_at (item_of o).place) is ∙ left-loose q x.place some loose;
  plain = ap (λ o. (item_of o).lot.serial) is ∙ plain;
}

-- what is loose has 1 to the largest quantity
pub plain-bounds : (n : ℕ) (s : Stock) → IsSound s → IsPlain n s
    → (1 ≤ (item_at n s).quantity) × ((item_at n s).quantity ≤ largest)
plain-bounds n s sound h = bounds_at (item_at n s) h.loose (good_at s.items sound.items n (item_at n s) h.there)
