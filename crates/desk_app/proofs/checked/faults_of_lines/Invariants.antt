use Rattle.std.proofs.Common.{◌≤◌, ◌+◌, ◌-◌, length, string_bytes}
use Rattle.desk_app.proofs.Checking.{Looked}
use Rattle.desk_app.proofs.checked.faults_of_lines.Given as goal

abbrev pub invariant-loop-at : goal.invariant-loop-at
invariant-loop-at l = record {
  looked : Looked l.names l.bytes l.at l.number (string_bytes l.text) l.fine;
  count : l.number ≤ l.at;
  bound : l.at ≤ length l.bytes + 1;
}

abbrev pub decreases-loop-at : goal.decreases-loop-at
decreases-loop-at l = length l.bytes - l.at
