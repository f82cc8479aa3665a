-- A new order, of a supplier or of a customer.
use Rattle.std.specs.Prelude.{ℕ, List, [], ◌∷◌}
use Rattle.std.specs.FinMap as table
use Rattle.word_core.specs.Checks.{Check}
use Rattle.word_core.specs.Counter.{passes_limit}
use Rattle.word_core.specs.declared.refusal.Refusal.TheVariants.{Full}
use Rattle.order_core.specs.Orders.{OrderBooks, one_drawn}
use Rattle.order_core.specs.declared.order.Order.{Order}
use Rattle.word_core.specs.declared.side.Side.{Side}
use Rattle.order_core.specs.declared.state.OrderState.TheVariants.{Pending}

abbrev pub order_row : ℕ → Side → List ℕ → Order
order_row n side partner = record { number = n; side = side; partner = partner; state = Pending }

-- an order under the next number
abbrev pub new_order : Side → List ℕ → OrderBooks → OrderBooks
new_order side partner b =
    let n = b.books.counter.next in
    record b { orders = table.insert b.orders (n ∷ []) (order_row n side partner); books = one_drawn b.books }

-- why it is refused
abbrev pub new_order_checks : Side → List ℕ → OrderBooks → List Check
new_order_checks side partner b = (passes_limit (new_order side partner b).books.counter, Full) ∷ []
