use Rattle.std.proofs.Common.{rules, not}
use Rattle.word_core.specs.Numbered.{is_drawn}
use Rattle.sheet_core.specs.Sheet.{now_of}
use Rattle.part_core.proofs.RowTests.{drawn-right}
use Rattle.order_core.proofs.orders.Orders.are_lines_drawn.Goals as goal

pub returns : goal.returns
returns c =
    drawn-right (λ x. x.number) c.args.next (now_of c.args.self.now.lines) c.lines.ensures.own c.any.result
    (rw c.lines.ensures.value at (c.any.ensures (λ x. not (is_drawn c.args.next x.number)) (search rules)))
