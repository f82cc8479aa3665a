use Rattle.std.proofs.Common.{◌≡◌, [], ◌∷◌}
use Rattle.sheet_core.specs.Filled.{filled_onto}
use Rattle.sheet_core.specs.Sheet.{now_of}
use Rattle.alloc_core.specs.AllocationsView.{allocations_from}
use Rattle.alloc_core.proofs.allocation_rows.AllocationRows.filled.Given as goal

abbrev pub invariant-loop-row : goal.invariant-loop-row
invariant-loop-row l =
    filled_onto (λ a. a.number ∷ []) (now_of l.all) l.row-iterator.rest.items ≡ allocations_from l.fn.rows.items
