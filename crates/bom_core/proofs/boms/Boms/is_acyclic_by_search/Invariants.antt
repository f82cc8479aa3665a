use Rattle.std.proofs.Common.{◌<◌, ℕ, get_or}
use Rattle.std.specs.Borrow.{Bor}
use Rattle.part_core.specs.CatalogueView.{parts_of}
use Rattle.part_core.specs.declared.part.Part.{Part}
use Rattle.bom_core.specs.BomsView.{bills_of}
use Rattle.bom_core.specs.Walks.{HasWalk}
use Rattle.bom_core.proofs.boms.Boms.is_acyclic_by_search.Given as goal

-- none of the parts so far contains itself
abbrev pub invariant-loop-part : goal.invariant-loop-part
invariant-loop-part l =
    (k : ℕ) (r : Bor Part) → k < l.part-index → ¬ HasWalk (parts_of l.fn.catalogue) (bills_of l.fn.self)
    (get_or l.part-items k r).now.number (get_or l.part-items k r).now.number
