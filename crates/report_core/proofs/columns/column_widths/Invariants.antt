use Rattle.std.proofs.Common.{◌≡◌, drop}
use Rattle.std.specs.List.{fold}
use Rattle.report_core.specs.Columns.{column_widths, wider}
use Rattle.report_core.specs.Lines.{lines_of}
use Rattle.report_core.proofs.columns.column_widths.Given as goal

-- the widths so far, widened by what is left, are all widths
abbrev pub invariant-loop-line : goal.invariant-loop-line
invariant-loop-line l =
    fold wider l.widths.items (lines_of (drop l.line-index l.lines)) ≡ column_widths (lines_of l.lines)
