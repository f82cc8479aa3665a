use Rattle.std.proofs.Common.{◌≡◌, drop}
use Rattle.word_core.specs.Forms.{is_among, names_of, shown_fields}
use Rattle.desk_cli.proofs.sheet_words.is_field.Given as goal

abbrev pub invariant-loop-field : goal.invariant-loop-field
invariant-loop-field l =
    is_among l.name (names_of (shown_fields l.field-items))
    ≡ is_among l.name (names_of (shown_fields (drop l.field-index l.field-items)))
