use Rattle.std.proofs.Common.{◌≡◌, ◌++◌, map}
use Rattle.serde_json.specs.View.{view, members_view}
use Rattle.word_core.specs.Forms.{names_of, shown_fields}
use Rattle.desk_wire.specs.WrongFields.{first_unknown, unknown_in}
use Rattle.desk_wire.proofs.line_faults.unknown_member.Given as goal

-- the first unknown member is that of the members that are left
abbrev pub invariant-loop-name : goal.invariant-loop-name
invariant-loop-name l =
    let names = map (λ n. n.now) l.names ++ names_of (shown_fields l.blanks) in
    unknown_in names (view l.object) ≡ first_unknown names (members_view l.name-iterator)
