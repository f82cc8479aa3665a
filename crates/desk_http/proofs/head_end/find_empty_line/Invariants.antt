use Rattle.std.proofs.Common.{◌≡◌, ◌+◌, drop}
use Rattle.std.specs.Prelude.{option_map}
use Rattle.desk_http.specs.HeadEnds.{empty_line_end}
use Rattle.desk_http.proofs.head_end.find_empty_line.Given as goal

abbrev pub invariant-loop-i : goal.invariant-loop-i
invariant-loop-i l = empty_line_end l.bytes ≡ option_map (λ n. n + l.i) (empty_line_end (drop l.i l.bytes))
