use Rattle.std.proofs.Common.{◌≡◌, ◌++◌, map}
use Rattle.serde_json.specs.View.{view}
use Rattle.word_core.specs.Forms.{names_of, shown_fields}
use Rattle.desk_wire.specs.Members.{knows_all}
use Rattle.desk_wire.proofs.MemberNames.{all_keys}
use Rattle.desk_wire.proofs.members.knows_all.Given as goal

abbrev pub invariant-loop-name : goal.invariant-loop-name
invariant-loop-name l =
    knows_all (map (λ n. n.now) l.names ++ names_of (shown_fields l.blanks)) (view l.object)
    ≡ all_keys (map (λ n. n.now) l.names ++ names_of (shown_fields l.blanks)) l.name-iterator
