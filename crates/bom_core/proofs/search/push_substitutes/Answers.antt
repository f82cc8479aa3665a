use Rattle.std.proofs.Common.{List, map, ap, ◌∙◌, Bor}
use Rattle.bom_core.specs.declared.substitute.Substitute.{Substitute}
use Rattle.bom_core.specs.Search.{push_all}
use Rattle.bom_core.proofs.Pushes.{names_added}
use Rattle.bom_core.proofs.search.push_substitutes.Goals as goal

pub returns : goal.returns
returns c =
    names_added c.deref-row-items.result.now c.loop-row.row-index c.loop-row.seen.keys _ (λ (x : Substitute). x.part)
    c.loop-row.invariant c.loop-row-test.false
    ∙ ap (λ (xs : List Substitute). push_all c.args.seen.now.keys (map (λ x. x.part) xs))
    (ap (λ (xs : List (Bor Substitute)). map (λ x. x.now) xs) c.deref-row-items.ensures.value
    ∙ c.in_ok-substitutes_on.ensures)
