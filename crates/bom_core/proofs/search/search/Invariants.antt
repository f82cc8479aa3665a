use Rattle.std.proofs.Common.{◌≤◌, ◌^◌}
use Rattle.part_core.specs.CatalogueView.{parts_of}
use Rattle.bom_core.specs.BomsView.{bills_of}
use Rattle.bom_core.specs.Search.{is_next}
use Rattle.bom_core.proofs.Closed.{IsSearch}
use Rattle.bom_core.proofs.search.search.Given as goal

abbrev pub invariant-loop-at : goal.invariant-loop-at
invariant-loop-at l =
    IsSearch (is_next l.fn.direction (parts_of l.fn.catalogue) (bills_of l.fn.boms)) l.fn.start l.seen.keys l.at
    × (l.at ≤ 2 ^ 63)
