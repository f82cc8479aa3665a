use Rattle.order_core.proofs.OrderColumns.{line_told}
use Rattle.order_core.proofs.line.OrderLineStored.from_columns.Goals as goal

pub returns-clause-told : goal.returns-clause-told
returns-clause-told c =
    line_told c.args.columns.now _ _ _ _ _ c.in_ok-has.ensures c.in_ok-number.ensures c.in_ok-order.ensures
    c.in_ok-part.ensures c.in_ok-quantity.ensures c.in_ok-done.ensures
