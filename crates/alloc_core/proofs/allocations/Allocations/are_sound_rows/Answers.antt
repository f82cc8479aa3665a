use Rattle.std.proofs.Common.{rules, not}
use Rattle.part_core.proofs.RowTests.{each-tested}
use Rattle.yard_core.specs.YardView.{stock_of}
use Rattle.alloc_core.specs.AllocationsView.{allocations_now}
use Rattle.alloc_core.specs.RowTests.{is_sound_row}
use Rattle.alloc_core.proofs.Opened.{sound_row-is}
use Rattle.alloc_core.proofs.allocations.Allocations.are_sound_rows.Goals as goal

pub returns : goal.returns
returns c =
    let s = stock_of c.args.yard.now in
    each-tested (is_sound_row s) _ (allocations_now c.args.self.now) (sound_row-is s) c.any.result
    (rw c.rows.ensures.value at (c.any.ensures (λ x. not (is_sound_row s x)) (search rules)))
