use Rattle.std.proofs.Common.{◌≡◌, drop}
use Rattle.csv.specs.Reading.{strip_bom}
use Rattle.word_core.specs.Forms.{shown}
use Rattle.desk_wire.specs.Imports.{separators}
use Rattle.desk_wire.specs.Sheets.{layout_by}
use Rattle.desk_wire.specs.SheetViews.{shown_sayings}
use Rattle.desk_wire.proofs.sheet_columns.layout_of.Given as goal

abbrev pub invariant-loop-separator : goal.invariant-loop-separator
invariant-loop-separator l =
    layout_by (shown l.form) (shown_sayings l.said) (strip_bom l.bytes) separators
    ≡ layout_by (shown l.form) (shown_sayings l.said) (strip_bom l.bytes) (drop l.separator-index separators)
