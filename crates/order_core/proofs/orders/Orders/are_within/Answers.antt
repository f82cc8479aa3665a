use Rattle.std.proofs.Common.{rules, not}
use Rattle.sheet_core.specs.Sheet.{now_of}
use Rattle.part_core.proofs.RowTests.{each-tested}
use Rattle.alloc_core.specs.AllocationsView.{allocations_now}
use Rattle.order_core.specs.RowTests.{is_within}
use Rattle.order_core.proofs.Opened.{within-is}
use Rattle.order_core.proofs.orders.Orders.are_within.Goals as goal

pub returns : goal.returns
returns c =
    let t = allocations_now c.args.allocations.now in
    each-tested (is_within t) _ (now_of c.args.self.now.lines) (within-is t) c.any.result
    (rw c.lines.ensures.value at (c.any.ensures (λ x. not (is_within t x)) (search rules)))
