use Rattle.std.proofs.Common.{◌≡◌, drop, length}
use Rattle.std.specs.Prelude.{codes}
use Rattle.std.specs.Vec.Iter.{into_iter_items, into_iter_len}
use Rattle.serde_json.specs.Data.{string, put, no_members}
use Rattle.word_core.specs.Forms.{shown_fields}
use Rattle.desk_core.specs.CommandText.{with_fields}
use Rattle.desk_core.specs.TextWriting.{in_order}
use Rattle.desk_core.proofs.texts.members.Given as goal

-- the members so far, and those of the fields that are left
abbrev pub invariant-loop-name : goal.invariant-loop-name
invariant-loop-name l =
    (with_fields (shown_fields (drop l.name-index l.blanks)) (into_iter_items l.left) (in_order l.members.entries)
    ≡ with_fields (shown_fields l.blanks) l.fn.fields.items (put (codes "do") (string l.fn.verb) no_members))
    × (into_iter_len l.left ≡ length (into_iter_items l.left))
