use Rattle.desk_app.specs.Cuts.{left}
use Rattle.desk_app.proofs.Asking.{Going}
use Rattle.desk_app.proofs.at.ask_lines.Given as goal

abbrev pub invariant-loop : goal.invariant-loop
invariant-loop g l =
    Going l.stop (g.R.Read.remaining l.initial.reader) (left (g.R.Read.remaining l.reader) l.lines)
    (g.A.Asker.log l.initial.asker) (g.A.Asker.log l.asker) (g.W.Write.contents l.initial.writer)
    (g.W.Write.contents l.writer) l.before l.all
