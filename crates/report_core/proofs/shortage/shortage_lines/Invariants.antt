use Rattle.std.proofs.Common.{◌≡◌, ◌++◌, drop, map}
use Rattle.part_core.specs.CatalogueView.{parts_of}
use Rattle.report_core.specs.Lines.{lines_of}
use Rattle.report_core.specs.Shortage.{shortage_line}
use Rattle.report_core.proofs.shortage.shortage_lines.Given as goal

-- the lines so far and those of what is left are all lines
abbrev pub invariant-loop-row : goal.invariant-loop-row
invariant-loop-row l = let line = shortage_line (parts_of l.catalogue) in
    lines_of l.lines.items ++ map line (drop l.row-index l.rows) ≡ map line l.rows
