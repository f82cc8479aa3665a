use Rattle.std.proofs.Common.{◌≡◌, drop}
use Rattle.std.specs.Prelude.{option_map}
use Rattle.serde_json.specs.View.{view}
use Rattle.word_core.specs.Forms.{shown_fields}
use Rattle.desk_wire.specs.WrongFields.{wrong_field}
use Rattle.desk_wire.proofs.line_faults.wrong_in_fields.Given as goal

-- the first field that can't be read is that of the fields that are left
abbrev pub invariant-loop-name : goal.invariant-loop-name
invariant-loop-name g l =
    let names = option_map (λ n. g.N.Names.naming_of n.now) l.names in
    wrong_field names (shown_fields l.blanks) (view l.object)
    ≡ wrong_field names (shown_fields (drop l.name-index l.blanks)) (view l.object)
