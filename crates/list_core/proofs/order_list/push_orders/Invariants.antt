use Rattle.std.proofs.Common.{◌≡◌, ◌++◌, drop, flat_map, map}
use Rattle.desk_core.specs.ShopView.{state_of}
use Rattle.report_core.specs.Lines.{lines_of}
use Rattle.list_core.specs.OrderList.{order_rows}
use Rattle.list_core.proofs.order_list.push_orders.Given as goal

-- the rows so far and those of the orders that are left are all rows
abbrev pub invariant-loop-order : goal.invariant-loop-order
invariant-loop-order l = let rows = order_rows (state_of l.shop) in
    lines_of l.rows.items ++ flat_map rows (map (λ o. o.now) (drop l.order-index l.orders))
    ≡ lines_of l.initial.rows.items ++ flat_map rows (map (λ o. o.now) l.orders)
