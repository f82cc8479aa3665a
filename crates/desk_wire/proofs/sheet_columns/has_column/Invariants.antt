use Rattle.std.proofs.Common.{◌≡◌, drop}
use Rattle.desk_wire.specs.Sheets.{has_column}
use Rattle.desk_wire.specs.SheetViews.{shown_fields}
use Rattle.desk_wire.proofs.sheet_columns.has_column.Given as goal

abbrev pub invariant-loop-f : goal.invariant-loop-f
invariant-loop-f l = has_column (shown_fields l.places) ≡ has_column (shown_fields (drop l.f-index l.places))
