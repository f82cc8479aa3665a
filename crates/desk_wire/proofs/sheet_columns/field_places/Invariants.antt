use Rattle.std.proofs.Common.{◌≡◌, drop}
use Rattle.csv.specs.Records.{fields_of}
use Rattle.word_core.specs.Forms as forms
use Rattle.desk_wire.specs.Sheets.{field_places}
use Rattle.desk_wire.specs.SheetViews.{shown_fields, shown_sayings}
use Rattle.desk_wire.proofs.SheetFacts.{after}
use Rattle.desk_wire.proofs.sheet_columns.field_places.Given as goal

abbrev pub invariant-loop-name : goal.invariant-loop-name
invariant-loop-name l =
    field_places (shown_sayings l.said) (forms.shown_fields l.blanks) (fields_of l.header)
    ≡ after (shown_fields l.places.items)
    (field_places (shown_sayings l.said) (forms.shown_fields (drop l.name-index l.blanks)) (fields_of l.header))
