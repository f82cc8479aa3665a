use Rattle.std.proofs.Common.{sym}
use Rattle.desk_wire.proofs.Strokes.{cut_some}
use Rattle.desk_wire.proofs.text_ways.cut_at_stroke.Goals as goal

pub returns-in-Some : goal.returns-in-Some
returns-in-Some c = sym (cut_some c.args.text.now c.in-Some.name.now c.in-Some.rest.now c.in-Some.ensures.cases)
