use Rattle.std.proofs.Common.{◌≡◌, ◌++◌, drop}
use Rattle.report_core.specs.Lines.{lines_of}
use Rattle.report_core.specs.Cut.{cut_fields}
use Rattle.report_core.proofs.cut.cut_each.Given as goal

-- the lines so far and those of what is left are all lines
abbrev pub invariant-loop-line : goal.invariant-loop-line
invariant-loop-line l =
    lines_of l.told.items ++ cut_fields (lines_of (drop l.line-index l.lines)) ≡ cut_fields (lines_of l.lines)
