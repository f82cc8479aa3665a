use Rattle.std.proofs.Common.{◌≡◌, ◌-◌, ◌++◌, drop, map}
use Rattle.desk_core.specs.ShopView.{state_of}
use Rattle.report_core.specs.Lines.{lines_of}
use Rattle.list_core.proofs.BillTree.{bills_below}
use Rattle.list_core.proofs.part_list.+push_bill.Given as goal

abbrev pub decreases-push_bill : goal.decreases-push_bill
decreases-push_bill l = l.levels

-- the lines so far and those of what is left are all lines
abbrev pub invariant-loop-line : goal.invariant-loop-line
invariant-loop-line l = let below = bills_below (l.levels - 1) (state_of l.shop) l.depth in
    lines_of l.lines.items ++ below (map (λ x. x.now) (drop l.line-index l.line-items))
    ≡ lines_of l.initial.lines.items ++ below (map (λ x. x.now) l.line-items)
