use Rattle.std.proofs.Common.{sym, ◌∙◌}
use Rattle.desk_app.proofs.Cutting.{range_later}
use Rattle.desk_app.proofs.lines.Lines.take_piece.Goals as goal

pub returns-in_ok-hold-in-Some-clause-left : goal.returns-in_ok-hold-in-Some-clause-left
returns-in_ok-hold-in-Some-clause-left c =
    let s = c.args.self.now in
    let h = rw c.deref.ensures.value at c.in-Some.ensures in
    range_later s.buffer.items s.at s.filled c.in-Some.n h.0 ∙ sym h.3
