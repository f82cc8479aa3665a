use Rattle.std.proofs.Common.{◌≡◌, ◌++◌, drop}
use Rattle.report_core.specs.Lines.{lines_of}
use Rattle.list_core.proofs.report_form.push_lines.Given as goal

-- the lines so far and those of what is left are all lines
abbrev pub invariant-loop-line : goal.invariant-loop-line
invariant-loop-line l =
    lines_of l.told.items ++ lines_of (drop l.line-index l.lines)
    ≡ lines_of l.initial.told.items ++ lines_of l.lines
