use Rattle.std.proofs.Common.{◌≡◌, List, [], ◌∷◌, map, refl, ap, ◌∙◌, Bor}
use Rattle.sheet_core.proofs.SlotLemmas.{IfOk-map}
use Rattle.bom_core.specs.declared.substitute.Substitute.{Substitute}
use Rattle.bom_core.proofs.boms.Boms.substitutes_of.Goals as goal

numbers-now : (rows : List (Bor Substitute))
    → map (λ r. r.now.number) rows ≡ map (λ (s : Substitute). s.number) (map (λ r. r.now) rows)
numbers-now [] = refl
numbers-now (r ∷ rs) = ap (λ l. r.now.number ∷ l) (numbers-now rs)

pub returns : goal.returns
returns c =
    IfOk-map c.numbers_of.result c.numbers_of.ensures (λ numbers e.
    e
    ∙ ap (λ (l : List (Bor Substitute)). map (λ r. r.now.number) l) c.deref.ensures.value
    ∙ numbers-now c.in_ok-rows.rows.items
    ∙ ap (map (λ (s : Substitute). s.number)) c.in_ok-rows.ensures)
