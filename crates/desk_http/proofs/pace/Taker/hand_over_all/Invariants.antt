use Rattle.std.proofs.Common.{length, ◌-◌, ◌≤◌}
use Rattle.desk_http.proofs.pace.Taker.hand_over_all.Given as goal

abbrev pub invariant-loop-at : goal.invariant-loop-at
invariant-loop-at g l = record { in_range : l.at ≤ length l.bytes }

abbrev pub decreases-loop-at : goal.decreases-loop-at
decreases-loop-at g l = length l.bytes - l.at
