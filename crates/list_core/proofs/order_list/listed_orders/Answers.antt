use Rattle.std.proofs.Common.{◌||◌, not, rules}
use Rattle.sheet_core.proofs.SlotLemmas.{IfOk-map}
use Rattle.order_core.specs.Orders.{is_open}
use Rattle.list_core.proofs.order_list.listed_orders.Goals as goal

pub returns : goal.returns
returns c =
    IfOk-map c.select.result c.select.ensures
    (λ rows e. e (λ o. not c.args.only_open || is_open o.state) (search rules))
