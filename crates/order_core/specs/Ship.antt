-- What is allocated for a sale goes to the customer.
use Rattle.std.specs.Prelude.{◌≡◌, ℕ, ◌+◌, ◌≤◌, ◌++◌, not, List, [], ◌∷◌, length, ◌==◌}
use Rattle.word_core.specs.Checks.{Check}
use Rattle.word_core.specs.Day.{CivilDay}
use Rattle.word_core.specs.Quantity.{largest}
use Rattle.sheet_core.specs.Rows.{EachRow, IsThere, StandRight}
use Rattle.sheet_core.specs.Sheet.{Table}
use Rattle.word_core.specs.declared.refusal.Refusal.TheVariants.{NoSuch, WrongState, Mismatch, Short, Full}
use Rattle.forest.specs.declared.place.Place.TheVariants.{Sent}
use Rattle.alloc_core.specs.Allocations.{allocations_of, is_for_sale_line, released_for, sum_where}
use Rattle.alloc_core.specs.declared.allocation.Allocation.{Allocation}
use Rattle.alloc_core.specs.declared.purpose.Owner.TheVariants as owner
use Rattle.alloc_core.specs.declared.purpose.Purpose.{Purpose}
use Rattle.alloc_core.specs.declared.purpose.Purpose.TheVariants.{Sale, Build}
use Rattle.yard_core.specs.StockBooks.{StockBooks, is_full, with_stock}
use Rattle.yard_core.specs.Stock.{lift}
use Rattle.stock_core.specs.Serving.{serve_each}
use Rattle.sheet_core.specs.TableRows.{mapped}
use Rattle.word_core.specs.Side.{is_sale}
use Rattle.order_core.specs.Orders.{OrderBooks, done_more, is_in_progress, is_no_order, order_at}
use Rattle.order_core.specs.declared.line.OrderLine.{OrderLine}

-- the order's allocations, in order of number
abbrev pub sale_rows : ℕ → OrderBooks → List Allocation
sale_rows n b = allocations_of (owner.Order n) b.allocations

-- an item that was taken goes to the customer, with all that lies in it
abbrev pub sent_for : ℕ → CivilDay → StockBooks × ℕ → StockBooks
sent_for order day t = with_stock (lift t.1 (Sent order) day t.0.stock) t.0

-- a line of which what these hold for it is done too
abbrev pub delivered : List Allocation → OrderLine → OrderLine
delivered rows l = record l { done = l.done + sum_where (λ a. is_for_sale_line l.number a.purpose) rows }

-- for one allocation after another, what it holds is done of its line too
abbrev pub deliver_to : Purpose → ℕ → Table OrderLine → Table OrderLine
deliver_to (Sale order line) quantity t = done_more line quantity t
deliver_to (Build build line output) quantity t = t

abbrev pub deliver_each : List Allocation → Table OrderLine → Table OrderLine
deliver_each [] t = t
deliver_each (a ∷ rows) t = deliver_each rows (deliver_to a.purpose a.quantity t)

-- what each allocation holds goes, of each line what was allocated for it is done, and the allocations go
abbrev pub ship : ℕ → CivilDay → OrderBooks → OrderBooks
ship n day b = record {
  orders = b.orders;
  lines = mapped (delivered (sale_rows n b)) b.lines;
  allocations = released_for (owner.Order n) b.allocations;
  books = serve_each (sent_for n day) day (sale_rows n b) b.books;
}

-- why it is refused whatever the limits are, in the order of checks
abbrev pub ship_asks : ℕ → OrderBooks → List Check
ship_asks n b =
    (is_no_order n b, NoSuch)
    ∷ (not (is_in_progress (order_at n b).state), WrongState)
    ∷ (not (is_sale (order_at n b).side), Mismatch)
    ∷ (length (sale_rows n b) == 0, Short)
    ∷ []

-- why it is refused
abbrev pub ship_checks : ℕ → CivilDay → OrderBooks → List Check
ship_checks n day b = ship_asks n b ++ (is_full (ship n day b).books, Full) ∷ []

-- ---- that it can be done of the lines

-- each allocation is for a line that is there
abbrev pub HaveLines : Table OrderLine → List Allocation → Type 0
HaveLines t [] = Unit {0}
HaveLines t (a ∷ xs) = ((order : ℕ) × (line : ℕ) × (a.purpose ≡ Sale order line) × IsThere t line) × HaveLines t xs

-- and of none more than the largest quantity comes to be done
pub record CanDeliver (rows : List Allocation) (t : Table OrderLine) : Type 0 where
  pub next : ℕ
  pub right : StandRight (λ l. l.number) next t
  pub have : HaveLines t rows
  pub fits : EachRow (λ l. l.done ≤ largest) (mapped (delivered rows) t)
