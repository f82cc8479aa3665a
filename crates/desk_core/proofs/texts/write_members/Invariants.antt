use Rattle.std.proofs.Common.{◌≡◌, ◌++◌}
use Rattle.json.specs.Tree.{members_tokens}
use Rattle.serde_json.specs.Written.{members_outline}
use Rattle.desk_core.specs.TextWriting.{in_order}
use Rattle.desk_core.proofs.texts.write_members.Given as goal

abbrev pub invariant-loop-name : goal.invariant-loop-name
invariant-loop-name l =
    (l.out.tokens ++ members_tokens (members_outline (in_order l.name-iterator))
    ≡ l.initial.out.tokens ++ members_tokens (members_outline (in_order l.members.entries)))
    × (l.out.before ≡ l.initial.out.before)
