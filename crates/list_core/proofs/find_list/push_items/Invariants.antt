use Rattle.std.proofs.Common.{◌≡◌, ◌++◌, drop, filter, map}
use Rattle.desk_core.specs.ShopView.{state_of}
use Rattle.list_core.specs.FindList.{found_item, is_lot}
use Rattle.report_core.specs.Lines.{lines_of}
use Rattle.list_core.proofs.find_list.push_items.Given as goal

-- the lines so far and those of what is left are all lines
abbrev pub invariant-loop-item : goal.invariant-loop-item
invariant-loop-item l =
    lines_of l.lines.items
    ++ map (found_item (state_of l.shop)) (filter (is_lot l.word) (map (λ x. x.now) (drop l.item-index l.item-items)))
    ≡ lines_of l.initial.lines.items ++ map (found_item (state_of l.shop)) (filter (is_lot l.word) (map (λ x. x.now) l.item-items))
