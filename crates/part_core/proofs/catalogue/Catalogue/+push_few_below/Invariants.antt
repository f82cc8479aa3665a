use Rattle.std.proofs.Common.{◌≡◌, ◌-◌, ◌++◌, drop, map}
use Rattle.part_core.specs.CatalogueView.{parts_of}
use Rattle.part_core.proofs.Chains.{below_all}
use Rattle.part_core.proofs.catalogue.Catalogue.+push_few_below.Given as goal

abbrev pub decreases-push_few_below : goal.decreases-push_few_below
decreases-push_few_below l = l.steps

abbrev pub invariant-loop-row : goal.invariant-loop-row
invariant-loop-row l =
    l.found.items ++ below_all (l.steps - 1) (parts_of l.self) (map (λ x. x.now) (drop l.row-index l.row-items))
    ≡ l.initial.found.items ++ below_all (l.steps - 1) (parts_of l.self) (map (λ x. x.now) l.row-items)
