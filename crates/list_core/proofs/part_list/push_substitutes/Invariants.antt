use Rattle.std.proofs.Common.{◌≡◌, ◌++◌, drop, map}
use Rattle.desk_core.specs.ShopView.{state_of}
use Rattle.report_core.specs.Lines.{lines_of}
use Rattle.list_core.specs.PartList.{substitute_row}
use Rattle.list_core.proofs.part_list.push_substitutes.Given as goal

-- the lines so far and those of what is left are all lines
abbrev pub invariant-loop-substitute : goal.invariant-loop-substitute
invariant-loop-substitute l = let row = substitute_row (state_of l.shop) l.depth in
    lines_of l.lines.items ++ map row (map (λ x. x.now) (drop l.substitute-index l.substitutes))
    ≡ lines_of l.initial.lines.items ++ map row (map (λ x. x.now) l.substitutes)
