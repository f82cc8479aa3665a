use Rattle.std.proofs.Common.{ℕ, ◌<◌, get_or}
use Rattle.part_core.specs.CatalogueView.{parts_of}
use Rattle.bom_core.specs.BomsView.{bills_of}
use Rattle.bom_core.specs.Walks.{HasWalk}
use Rattle.bom_core.proofs.boms.Boms.is_in_cycle.Given as goal

-- none of those so far contains itself
abbrev pub invariant-loop-part : goal.invariant-loop-part
invariant-loop-part l =
    (k : ℕ) → k < l.part-index
    → ¬ HasWalk (parts_of l.fn.catalogue) (bills_of l.fn.self) (get_or l.part-items k 0) (get_or l.part-items k 0)
