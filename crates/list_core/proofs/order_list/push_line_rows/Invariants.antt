use Rattle.std.proofs.Common.{◌≡◌, ◌++◌, drop, map}
use Rattle.desk_core.specs.ShopView.{state_of}
use Rattle.report_core.specs.Lines.{lines_of}
use Rattle.list_core.specs.OrderList.{order_line_row}
use Rattle.list_core.proofs.order_list.push_line_rows.Given as goal

-- the rows so far and those of the lines that are left are all rows
abbrev pub invariant-loop-line : goal.invariant-loop-line
invariant-loop-line l = let row = order_line_row (state_of l.shop) l.order in
    lines_of l.rows.items ++ map row (map (λ x. x.now) (drop l.line-index l.lines))
    ≡ lines_of l.initial.rows.items ++ map row (map (λ x. x.now) l.lines)
