use Rattle.std.proofs.Common.{◌≡◌, map, drop}
use Rattle.word_core.specs.Forms.{is_among}
use Rattle.desk_wire.proofs.members.is_among.Given as goal

abbrev pub invariant-loop-known : goal.invariant-loop-known
invariant-loop-known l =
    is_among l.name (map (λ n. n.now) l.names) ≡ is_among l.name (map (λ n. n.now) (drop l.known-index l.names))
