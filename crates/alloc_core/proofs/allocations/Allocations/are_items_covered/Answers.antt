use Rattle.std.proofs.Common.{rules, not}
use Rattle.part_core.proofs.RowTests.{each-tested}
use Rattle.yard_core.specs.YardView.{stock_of}
use Rattle.alloc_core.specs.AllocationsView.{allocations_now}
use Rattle.alloc_core.specs.RowTests.{is_covered}
use Rattle.alloc_core.proofs.Opened.{covered-is}
use Rattle.alloc_core.proofs.allocations.Allocations.are_items_covered.Goals as goal

pub returns : goal.returns
returns c =
    let t = allocations_now c.args.self.now in
    each-tested (is_covered t) _ (stock_of c.args.yard.now).items (covered-is t) c.any.result
    (rw c.items.ensures at (c.any.ensures (λ x. not (is_covered t x)) (search rules)))
