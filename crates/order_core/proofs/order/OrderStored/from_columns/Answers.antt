use Rattle.order_core.proofs.OrderColumns.{order_told}
use Rattle.order_core.proofs.order.OrderStored.from_columns.Goals as goal

pub returns-clause-told : goal.returns-clause-told
returns-clause-told c =
    order_told c.args.columns.now _ _ _ _ c.in_ok-has.ensures c.in_ok-number.ensures c.in_ok-side.ensures
    c.in_ok-partner.ensures c.in_ok-state.ensures
