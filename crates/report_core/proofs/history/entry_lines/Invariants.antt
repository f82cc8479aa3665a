use Rattle.std.proofs.Common.{◌≡◌, ◌++◌, drop, map}
use Rattle.yard_core.specs.EntryLines.{entry_line}
use Rattle.report_core.specs.Lines.{lines_of}
use Rattle.report_core.proofs.history.entry_lines.Given as goal

-- the lines so far and those of what is left are all lines
abbrev pub invariant-loop-entry : goal.invariant-loop-entry
invariant-loop-entry l =
    lines_of l.lines.items ++ map entry_line (map (λ e. e.now) (drop l.entry-index l.entries))
    ≡ map entry_line (map (λ e. e.now) l.entries)
