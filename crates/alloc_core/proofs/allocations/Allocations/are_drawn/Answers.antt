use Rattle.std.proofs.Common.{rules, not}
use Rattle.word_core.specs.Numbered.{is_drawn}
use Rattle.part_core.proofs.RowTests.{drawn-right}
use Rattle.alloc_core.proofs.allocations.Allocations.are_drawn.Goals as goal

pub returns : goal.returns
returns c =
    drawn-right (λ x. x.number) c.args.next _ c.rows.ensures.own c.any.result
    (rw c.rows.ensures.value at (c.any.ensures (λ x. not (is_drawn c.args.next x.number)) (search rules)))
