use Rattle.std.proofs.Common.{◌≡◌, ◌++◌, drop, filter, map}
use Rattle.desk_core.specs.ShopView.{state_of}
use Rattle.list_core.specs.FindList.{found_part, is_in}
use Rattle.report_core.specs.Lines.{lines_of}
use Rattle.list_core.proofs.find_list.push_parts.Given as goal

-- the lines so far and those of what is left are all lines
abbrev pub invariant-loop-part : goal.invariant-loop-part
invariant-loop-part l =
    lines_of l.lines.items
    ++ map (found_part (state_of l.shop)) (filter (λ p. is_in l.word p.name) (map (λ x. x.now) (drop l.part-index l.part-items)))
    ≡ lines_of l.initial.lines.items ++ map (found_part (state_of l.shop)) (filter (λ p. is_in l.word p.name) (map (λ x. x.now) l.part-items))
