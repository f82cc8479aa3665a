use Rattle.std.proofs.Common.{◌≡◌, drop}
use Rattle.csv.specs.Records.{fields_of}
use Rattle.serde_json.specs.View.{members_view}
use Rattle.desk_wire.specs.Sheets.{with_cells}
use Rattle.desk_wire.specs.SheetViews.{shown_fields}
use Rattle.desk_wire.proofs.sheet.put_cells.Given as goal

abbrev pub invariant-loop-f : goal.invariant-loop-f
invariant-loop-f l =
    with_cells (shown_fields l.places) (fields_of l.fields) (members_view l.initial.members.entries)
    ≡ with_cells (shown_fields (drop l.f-index l.places)) (fields_of l.fields) (members_view l.members.entries)
