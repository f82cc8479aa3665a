use Rattle.std.proofs.Common.{◌≡◌, ◌≤◌, drop, length}
use Rattle.desk_app.specs.Heard.{behind_last}
use Rattle.desk_app.proofs.heard.end_of_line.Given as goal

abbrev pub invariant-loop-i : goal.invariant-loop-i
invariant-loop-i l = record {
  within : l.last ≤ length l.line;
  behind : behind_last 58 l.line l.line ≡ behind_last 58 (drop l.i l.line) (drop l.last l.line);
}
