use Rattle.std.proofs.Common.{◌≡◌, ◌∙◌, ◌∷◌, ◌||◌, ap, not, Bor, List, filter, flat_map, map}
use Rattle.std.specs.FinMap as table
use Rattle.sheet_core.specs.Sheet.{Rows, now_of}
use Rattle.order_core.specs.Orders.{is_open}
use Rattle.order_core.specs.declared.order.Order.{Order}
use Rattle.order_core.specs.declared.orders.Orders.{Orders}
use Rattle.desk_core.specs.ShopView.{state_of}
use Rattle.list_core.specs.OrderList.{order_header, order_rows}
use Rattle.list_core.proofs.order_list.order_list.Goals as goal

pub returns : goal.returns
returns c =
    let s = state_of c.args.shop.now in
    let kept = λ (o : Order). not c.args.only_open || is_open o.state in
    let lent : table.values (now_of c.orders-2.result.now) ≡ table.values s.orders =
    ap (λ (t : Rows Order). table.values (now_of t)) c.orders-2.ensures
    ∙ ap (λ (o : Orders). table.values (now_of o.orders)) c.orders.ensures in
    let orders : map (λ (o : Bor Order). o.now) c.as_slice.result.now ≡ filter kept (table.values s.orders) =
    ap (map (λ (o : Bor Order). o.now)) c.as_slice.ensures.value ∙ c.in_ok-orders.ensures ∙ ap (filter kept) lent in
    c.new.ensures ∙ c.in_ok-rows.ensures ∙ ap (λ (os : List Order). order_header ∷ flat_map (order_rows s) os) orders
