use Rattle.std.proofs.Common.{◌≡◌, ◌+◌, drop}
use Rattle.std.specs.Prelude.{option_map}
use Rattle.desk_http.specs.HeadEnds.{head_end}
use Rattle.desk_http.proofs.head_end.find_head_end.Given as goal

abbrev pub invariant-loop-i : goal.invariant-loop-i
invariant-loop-i l = head_end l.bytes ≡ option_map (λ n. n + l.i) (head_end (drop l.i l.bytes))
