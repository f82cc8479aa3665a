-- What is left of a part's items, item by item.
use Rattle.std.proofs.Common.{◌≡◌, ◌∙◌, ◌+◌, ◌<◌, ◌∷◌, ℕ, Bool, List, Bor, true, false, not, ap, add-one, arith, cond}
use Rattle.std.proofs.Common.{drop, drop-cons, filter, get_or, length, map, sym}
use Rattle.std.specs.Prelude.{sum_by}
use Rattle.std.proofs.lemmas.List.Sums.{sum_by-cons}
use Rattle.forest.specs.declared.item.Item.{Item}
use Rattle.yard_core.specs.Stock.{is_gone}

-- the items that aren't gone, from that index on
abbrev left_from : ℕ → List (Bor Item) → List Item
left_from i items = filter (λ (x : Item). not (is_gone x.place)) (map (λ (x : Bor Item). x.now) (drop i items))

-- of the item at the index, the items that are left from there on, and those of the next
module _ (items : List (Bor Item)) (i : ℕ) (x : Bor Item) (lt : i < length items) (is : x ≡ get_or items i x) where
  next_left : (gone : Bool) → gone ≡ is_gone x.now.place
      → left_from i items ≡ cond (not gone) (x.now ∷ left_from (i + 1) items) (left_from (i + 1) items)
  next_left gone told =
      ap (λ (l : List (Bor Item)). filter (λ (y : Item). not (is_gone y.place)) (map (λ (y : Bor Item). y.now) l))
      (drop-cons items i x lt ∙ ap (λ k. get_or items i x ∷ drop k items) (sym (add-one i))
      ∙ ap (λ y. y ∷ drop (i + 1) items) (sym is))
      ∙ ap (λ b. cond (not b) (x.now ∷ left_from (i + 1) items) (left_from (i + 1) items)) (sym told)

  -- one that isn't gone adds its share to a sum
  pub sum_more : (f : Item → ℕ) → false ≡ is_gone x.now.place → (old new total : ℕ) → new ≡ old + f x.now
      → old + sum_by f (left_from i items) ≡ total → new + sum_by f (left_from (i + 1) items) ≡ total
  sum_more f here old new total more so =
      let split : sum_by f (left_from i items) ≡ f x.now + sum_by f (left_from (i + 1) items) =
      ap (sum_by f) (next_left false here) ∙ sum_by-cons f x.now (left_from (i + 1) items) in
      omega arith

  -- and one to their number
  pub count_more : false ≡ is_gone x.now.place → (old new total : ℕ) → new ≡ old + 1
      → old + length (left_from i items) ≡ total → new + length (left_from (i + 1) items) ≡ total
  count_more here old new total more so =
      let split : length (left_from i items) ≡ length (x.now ∷ left_from (i + 1) items) =
      ap (λ (l : List Item). length l) (next_left false here) in
      omega arith

  -- one that is gone adds nothing to either
  pub sum_same : (f : Item → ℕ) → true ≡ is_gone x.now.place → (old new total : ℕ) → new ≡ old
      → old + sum_by f (left_from i items) ≡ total → new + sum_by f (left_from (i + 1) items) ≡ total
  sum_same f gone old new total same so =
      let left : sum_by f (left_from i items) ≡ sum_by f (left_from (i + 1) items) =
      ap (sum_by f) (next_left true gone) in
      omega arith

  pub count_same : true ≡ is_gone x.now.place → (old new total : ℕ) → new ≡ old
      → old + length (left_from i items) ≡ total → new + length (left_from (i + 1) items) ≡ total
  count_same gone old new total same so =
      let left : length (left_from i items) ≡ length (left_from (i + 1) items) =
      ap (λ (l : List Item). length l) (next_left true gone) in
      omega arith
