use Rattle.std.proofs.Common.{◌≡◌, ◌++◌, drop}
use Rattle.desk_http.specs.Proofs.{masked}
use Rattle.desk_http.proofs.proof.masked.Given as goal

abbrev pub invariant-loop-b : goal.invariant-loop-b
invariant-loop-b l = l.turned.items ++ masked l.mask (drop l.b-index l.bytes) ≡ masked l.mask l.bytes
