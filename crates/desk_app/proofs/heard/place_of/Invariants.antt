use Rattle.std.proofs.Common.{◌≡◌, ◌+◌, drop}
use Rattle.std.specs.Prelude.{option_map}
use Rattle.desk_http.specs.Targets.{place_in}
use Rattle.desk_app.proofs.heard.place_of.Given as goal

abbrev pub invariant-loop-i : goal.invariant-loop-i
invariant-loop-i l = place_in l.byte l.bytes ≡ option_map (λ n. n + l.i) (place_in l.byte (drop l.i l.bytes))
