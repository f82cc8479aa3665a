use Rattle.std.proofs.Common.{◌≡◌, ◌++◌, drop, map}
use Rattle.report_core.specs.Lines.{lines_of}
use Rattle.report_core.specs.WhereUsed.{part_line}
use Rattle.report_core.proofs.where_used.part_lines.Given as goal

-- the lines so far and those of what is left are all lines
abbrev pub invariant-loop-part : goal.invariant-loop-part
invariant-loop-part l =
    lines_of l.lines.items ++ map part_line (map (λ p. p.now) (drop l.part-index l.parts))
    ≡ map part_line (map (λ p. p.now) l.parts)
