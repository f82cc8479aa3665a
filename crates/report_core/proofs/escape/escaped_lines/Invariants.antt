use Rattle.std.proofs.Common.{◌≡◌, ◌++◌, drop}
use Rattle.report_core.specs.Lines.{lines_of}
use Rattle.report_core.specs.Escaped.{escaped_lines}
use Rattle.report_core.proofs.escape.escaped_lines.Given as goal

-- the lines so far and those of what is left are all lines
abbrev pub invariant-loop-line : goal.invariant-loop-line
invariant-loop-line l =
    lines_of l.told.items ++ escaped_lines (lines_of (drop l.line-index l.lines)) ≡ escaped_lines (lines_of l.lines)
