-- An amount of an item is meant for a line of a sale.
use Rattle.std.specs.Prelude.{ℕ, ◌+◌, ◌==◌, ◌||◌, not, nat_lt, List, [], ◌∷◌}
use Rattle.std.specs.FinMap as table
use Rattle.word_core.specs.Checks.{Check}
use Rattle.word_core.specs.Counter.{passes_limit}
use Rattle.word_core.specs.Quantity.{is_bad_quantity}
use Rattle.word_core.specs.Status.{is_allocatable}
use Rattle.word_core.specs.declared.refusal.Refusal.TheVariants.{NoSuch, BadNumber, WrongState, Mismatch, Unfit}
use Rattle.word_core.specs.declared.refusal.Refusal.TheVariants.{NotLoose, Unavailable, Allocated, OverNeed, Full}
use Rattle.alloc_core.specs.Allocations.{allocated_for_sale_line, is_above_free}
use Rattle.alloc_core.specs.declared.allocation.Allocation.{Allocation}
use Rattle.alloc_core.specs.declared.purpose.Purpose.TheVariants as purpose
use Rattle.yard_core.specs.Stock.{item_at}
use Rattle.stock_core.specs.ItemTests.{is_loose, is_no_item, part_at}
use Rattle.word_core.specs.Side.{is_sale}
use Rattle.order_core.specs.Orders.{OrderBooks, is_in_progress, is_no_line, line_at, one_drawn, order_of_line}

abbrev pub sale_row : ℕ → ℕ → ℕ → ℕ → ℕ → Allocation
sale_row n order line item quantity =
    record { number = n; item = item; quantity = quantity; purpose = purpose.Sale order line }

-- an allocation under the next number
abbrev pub allocate_sale : ℕ → ℕ → ℕ → OrderBooks → OrderBooks
allocate_sale line item quantity b =
    let n = b.books.counter.next in
    record b {
      allocations = table.insert b.allocations (n ∷ []) (sale_row n (line_at line b).order line item quantity);
      books = one_drawn b.books;
    }

-- why it is refused, in the order of checks
abbrev pub allocate_sale_checks : ℕ → ℕ → ℕ → OrderBooks → List Check
allocate_sale_checks line item quantity b =
    let l = line_at line b in
    let s = b.books.stock in
    (is_no_line line b || is_no_item item s, NoSuch)
    ∷ (is_bad_quantity quantity, BadNumber)
    ∷ (not (is_in_progress (order_of_line line b).state), WrongState)
    ∷ (not (is_sale (order_of_line line b).side), Mismatch)
    ∷ (not (part_at item s == l.part), Unfit)
    ∷ (not (is_loose item s), NotLoose)
    ∷ (not (is_allocatable (item_at item s).lot.status), Unavailable)
    ∷ (is_above_free item quantity b.allocations s, Allocated)
    ∷ (nat_lt l.quantity (l.done + allocated_for_sale_line line b.allocations + quantity), OverNeed)
    ∷ (passes_limit (allocate_sale line item quantity b).books.counter, Full)
    ∷ []
