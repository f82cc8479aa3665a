use Rattle.std.proofs.Common.{◌≡◌, ◌++◌, drop, flat_map}
use Rattle.std.specs.String.{string_bytes}
use Rattle.report_core.specs.Columns.{column_line}
use Rattle.report_core.specs.Lines.{lines_of}
use Rattle.report_core.proofs.columns.push_lines.Given as goal

-- the text so far and that of what is left is all text
abbrev pub invariant-loop-line : goal.invariant-loop-line
invariant-loop-line l =
    string_bytes l.text ++ flat_map (column_line l.widths) (lines_of (drop l.line-index l.lines))
    ≡ string_bytes l.initial.text ++ flat_map (column_line l.widths) (lines_of l.lines)
