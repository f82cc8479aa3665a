use Rattle.std.proofs.Common.{◌≤◌, ◌+◌, ◌-◌, length}
use Rattle.desk_app.proofs.Hearing.{Told}
use Rattle.desk_app.proofs.heard.shown_lines.Given as goal

abbrev pub invariant-loop-at : goal.invariant-loop-at
invariant-loop-at l = record {
  told : Told l.before l.body l.at l.text.items l.fine;
  bound : l.at ≤ length l.body + 1;
}

abbrev pub decreases-loop-at : goal.decreases-loop-at
decreases-loop-at l = length l.body - l.at
