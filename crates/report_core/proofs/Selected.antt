-- What is left of a part's items without those that are gone.
use Rattle.std.proofs.Common.{◌≡◌, ◌∙◌, ◌&&◌, ◌==◌, ◌∷◌, ℕ, [], not, true, false}
use Rattle.std.proofs.Common.{Bool, List, Bor, ap, filter, map, cond, refl}
use Rattle.forest.specs.declared.item.Item.{Item}
use Rattle.yard_core.specs.Stock.{is_gone}
use Rattle.report_core.specs.Lines.{Lines}
use Rattle.report_core.specs.Stock.{is_stock_of, item_line}

-- what two tests leave, one after the other, is what both leave at once
filter_both : {X : Type 0} (p q : X → Bool) (xs : List X) → filter q (filter p xs) ≡ filter (λ x. p x && q x) xs
filter_both p q [] = refl
filter_both p q (x ∷ xs) =
    elim (p x) as (λ b. filter q (cond b (x ∷ filter p xs) (filter p xs))
    ≡ cond (b && q x) (x ∷ filter (λ y. p y && q y) xs) (filter (λ y. p y && q y) xs))
    [ true ↦ rw (filter_both p q xs) | false ↦ filter_both p q xs ]

-- those of the part's items that aren't gone are its stock
pub items_left : (part : ℕ) (rows : List Item) (slice items : List (Bor Item)) → slice ≡ items
    → map (λ (i : Bor Item). i.now) items ≡ filter (λ (x : Item). x.part == part) rows
    → filter (λ (i : Item). not (is_gone i.place)) (map (λ (i : Bor Item). i.now) slice)
    ≡ filter (is_stock_of part) rows
items_left part rows slice items same found =
    let left = λ (xs : List Item). filter (λ (i : Item). not (is_gone i.place)) xs in
    ap (λ (l : List (Bor Item)). left (map (λ (i : Bor Item). i.now) l)) same
    ∙ ap left found
    ∙ filter_both (λ (x : Item). x.part == part) (λ (x : Item). not (is_gone x.place)) rows

-- and their lines are those of its stock
pub lines_left : (part : ℕ) (rows : List Item) (slice items : List (Bor Item)) (lines : Lines) → slice ≡ items
    → map (λ (i : Bor Item). i.now) items ≡ filter (λ (x : Item). x.part == part) rows
    → lines ≡ map item_line (filter (λ (i : Item). not (is_gone i.place)) (map (λ (i : Bor Item). i.now) slice))
    → lines ≡ map item_line (filter (is_stock_of part) rows)
lines_left part rows slice items lines same found told =
    told ∙ ap (map item_line) (items_left part rows slice items same found)
