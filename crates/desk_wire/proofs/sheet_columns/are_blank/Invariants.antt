use Rattle.std.proofs.Common.{◌≡◌, drop}
use Rattle.std.specs.List.{list_all}
use Rattle.csv.specs.Records.{fields_of}
use Rattle.desk_wire.specs.Sheets.{is_blank}
use Rattle.desk_wire.specs.SheetViews.{shown_fields}
use Rattle.desk_wire.proofs.sheet_columns.are_blank.Given as goal

abbrev pub invariant-loop-f : goal.invariant-loop-f
invariant-loop-f l =
    list_all (λ f. is_blank f.place (fields_of l.fields)) (shown_fields l.places)
    ≡ list_all (λ f. is_blank f.place (fields_of l.fields)) (shown_fields (drop l.f-index l.places))
