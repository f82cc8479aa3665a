use Rattle.sheet_core.specs.Sheet.{now_of}
use Rattle.alloc_core.proofs.KeptSums.{sums-none}
use Rattle.alloc_core.proofs.allocation_rows.AllocationRows.new.Goals as goal

pub invariant_of-result : goal.invariant_of-result
invariant_of-result c = (
  (λ fresh. sums-none (now_of c.new.result) (now_of c.new-2.result) c.new.ensures.rows c.new-2.ensures.rows),
  (λ fresh. sums-none c.new.result.before c.new-2.result.before c.new.ensures.before c.new-2.ensures.before),
)
