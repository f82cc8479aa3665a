use Rattle.std.proofs.Common.{◌≡◌, ◌+◌, drop}
use Rattle.std.specs.Prelude.{option_map}
use Rattle.desk_http.specs.Targets.{place_in}
use Rattle.desk_http.proofs.asked.find_mark.Given as goal

abbrev pub invariant-loop-i : goal.invariant-loop-i
invariant-loop-i l = place_in 63 l.bytes ≡ option_map (λ n. n + l.i) (place_in 63 (drop l.i l.bytes))
