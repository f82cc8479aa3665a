use Rattle.std.proofs.Common.{◌∙◌, ap, filter, rules}
use Rattle.std.specs.FinMap as table
use Rattle.sheet_core.specs.Sheet.{now_of}
use Rattle.sheet_core.proofs.SlotLemmas.{IfOk-map}
use Rattle.order_core.specs.declared.orders.Orders.{Orders}
use Rattle.desk_core.specs.ShopView.{state_of}
use Rattle.list_core.specs.ReceiptSheet.{is_awaited}
use Rattle.list_core.proofs.receipt_sheet.awaited.Goals as goal

pub returns : goal.returns
returns c =
    let kept = is_awaited c.args.of (state_of c.args.shop.now) in
    IfOk-map c.select.result c.select.ensures
    (λ lines told. told kept (search rules)
    ∙ ap (λ s. filter kept (table.values (now_of s)))
    (c.lines.ensures.value ∙ ap (λ (o : Orders). o.lines) c.orders-orders.ensures))
