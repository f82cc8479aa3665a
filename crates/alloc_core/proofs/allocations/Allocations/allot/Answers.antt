use Rattle.std.proofs.Common.{ap, ◌∙◌, min, refl}
use Rattle.yard_core.specs.YardView.{stock_of}
use Rattle.alloc_core.specs.Allotments.{allotments_at, for_line}
use Rattle.alloc_core.proofs.Turns.{turn-past}
use Rattle.alloc_core.proofs.allocations.Allocations.allot.Goals as goal

pub returns-in-Err-clause-full : goal.returns-in-Err-clause-full
returns-in-Err-clause-full c = λ e.
    let items = c.args.items.now in
    let i = c.loop-item.item-index in
    turn-past (for_line c.args.build c.args.line) (stock_of c.args.yard.now) items i c.loop-item.left
    (allotments_at c.loop-item.next c.loop-item.self c.args.counter.now) _ c.loop-item.invariant.left
    0 _ _ c.loop-item-test.true refl (c.lesser-amount.ensures ∙ ap (λ f. min f c.loop-item.left) c.free_of.ensures)
    (c.put_some-put.ensures.full (c.in-Err.is ∙ e))
