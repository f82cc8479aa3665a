use Rattle.std.proofs.Common.{◌≡◌, ◌++◌, drop, map}
use Rattle.report_core.specs.Lines.{lines_of}
use Rattle.list_core.specs.PartList.{used_row}
use Rattle.list_core.proofs.part_list.push_used.Given as goal

-- the lines so far and those of what is left are all lines
abbrev pub invariant-loop-part : goal.invariant-loop-part
invariant-loop-part l =
    lines_of l.lines.items ++ map used_row (map (λ p. p.now) (drop l.part-index l.parts))
    ≡ lines_of l.initial.lines.items ++ map used_row (map (λ p. p.now) l.parts)
