use Rattle.std.proofs.Common.{◌≡◌, drop}
use Rattle.word_core.specs.Forms.{is_among, names_of, shown_fields}
use Rattle.desk_wire.proofs.members.is_field.Given as goal

abbrev pub invariant-loop-known : goal.invariant-loop-known
invariant-loop-known l =
    is_among l.name (names_of (shown_fields l.blanks))
    ≡ is_among l.name (names_of (shown_fields (drop l.known-index l.blanks)))
