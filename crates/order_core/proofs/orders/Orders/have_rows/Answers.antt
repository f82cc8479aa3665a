use Rattle.std.proofs.Common.{rules, not}
use Rattle.part_core.specs.CatalogueView.{parts_of}
use Rattle.sheet_core.specs.Sheet.{now_of}
use Rattle.part_core.proofs.RowTests.{each-tested}
use Rattle.order_core.specs.RowTests.{has_rows}
use Rattle.order_core.proofs.Opened.{has_rows-is}
use Rattle.order_core.proofs.orders.Orders.have_rows.Goals as goal

pub returns : goal.returns
returns c =
    let parts = parts_of c.args.catalogue.now in
    let orders = now_of c.args.self.now.orders in
    each-tested (has_rows parts orders) _ (now_of c.args.self.now.lines) (has_rows-is parts orders) c.any.result
    (rw c.lines.ensures.value at (c.any.ensures (λ x. not (has_rows parts orders x)) (search rules)))
