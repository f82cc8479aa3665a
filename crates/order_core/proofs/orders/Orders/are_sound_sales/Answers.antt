use Rattle.std.proofs.Common.{rules, not}
use Rattle.part_core.proofs.RowTests.{each-tested}
use Rattle.order_core.specs.OrderBooks.{order_books}
use Rattle.order_core.specs.RowTests.{is_sound_purpose}
use Rattle.order_core.proofs.Opened.{purpose-is}
use Rattle.order_core.proofs.orders.Orders.are_sound_sales.Goals as goal

pub returns : goal.returns
returns c =
    let b = order_books c.args.self.now c.args.floor.now in
    each-tested (λ a. is_sound_purpose b.orders b.lines b.books.stock a.item a.purpose) _ b.allocations
    (λ a. purpose-is b a.item a.purpose) c.any.result
    (rw c.rows.ensures.value
    at (c.any.ensures (λ a. not (is_sound_purpose b.orders b.lines b.books.stock a.item a.purpose)) (search rules)))
