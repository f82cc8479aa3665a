use Rattle.std.proofs.Common.{◌≡◌, drop}
use Rattle.desk_wire.specs.Sheets.{said_of}
use Rattle.desk_wire.specs.SheetViews.{shown_sayings}
use Rattle.desk_wire.proofs.sheet_columns.said_of.Given as goal

abbrev pub invariant-loop-member : goal.invariant-loop-member
invariant-loop-member l =
    said_of (shown_sayings l.said) l.name ≡ said_of (shown_sayings (drop l.member-index l.said)) l.name
