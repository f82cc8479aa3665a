-- Orders and their lines: the tables, and what is read from them.
use Rattle.std.specs.Prelude.{ℕ, ◌+◌, Bool, true, false, is_none, is_some, [], ◌∷◌, unwrap_or}
use Rattle.std.specs.FinMap as table
use Rattle.sheet_core.specs.Sheet.{Table}
use Rattle.alloc_core.specs.declared.allocation.Allocation.{Allocation}
use Rattle.yard_core.specs.StockBooks.{StockBooks, with_drawn}
use Rattle.stock_core.specs.Sound.{Owners}
use Rattle.order_core.specs.declared.line.OrderLine.{OrderLine}
use Rattle.order_core.specs.declared.order.Order.{Order}
use Rattle.word_core.specs.declared.side.Side.TheVariants.{Purchase}
use Rattle.order_core.specs.declared.state.OrderState.{OrderState}
use Rattle.order_core.specs.declared.state.OrderState.TheVariants.{Pending, InProgress, Complete, Cancelled}

-- what the commands on orders read and change
pub record OrderBooks : Type 0 where
  pub orders : Table Order
  pub lines : Table OrderLine
  pub allocations : Table Allocation
  pub books : StockBooks

-- ---- rows

-- an order that isn't there counts as one that was given up
abbrev pub no_order : Order
no_order = record { number = 0; side = Purchase; partner = []; state = Cancelled }

abbrev pub no_line : OrderLine
no_line = record { number = 0; order = 0; part = 0; quantity = 0; done = 0 }

-- the order of a number in a table of orders
abbrev pub order_in : ℕ → Table Order → Order
order_in n t = unwrap_or (table.get t (n ∷ [])) no_order

-- the order of a number
abbrev pub order_at : ℕ → OrderBooks → Order
order_at n b = unwrap_or (table.get b.orders (n ∷ [])) no_order

-- the line of a number
abbrev pub line_at : ℕ → OrderBooks → OrderLine
line_at n b = unwrap_or (table.get b.lines (n ∷ [])) no_line

-- the line of a number in a table of lines
abbrev pub line_in : ℕ → Table OrderLine → OrderLine
line_in n t = unwrap_or (table.get t (n ∷ [])) no_line

-- the order that a line is of
abbrev pub order_of_line : ℕ → OrderBooks → Order
order_of_line n b = order_at (line_at n b).order b

abbrev pub is_no_order : ℕ → OrderBooks → Bool
is_no_order n b = is_none (table.get b.orders (n ∷ []))

abbrev pub is_no_line : ℕ → OrderBooks → Bool
is_no_line n b = is_none (table.get b.lines (n ∷ []))

-- ---- states

abbrev pub is_pending : OrderState → Bool
is_pending Pending = true
is_pending _ = false

abbrev pub is_in_progress : OrderState → Bool
is_in_progress InProgress = true
is_in_progress _ = false

-- neither complete nor cancelled
abbrev pub is_open : OrderState → Bool
is_open Pending = true
is_open InProgress = true
is_open Complete = false
is_open Cancelled = false

-- ---- changes

-- an order in another state
abbrev pub in_state : OrderState → Order → Order
in_state state o = record { number = o.number; side = o.side; partner = o.partner; state = state }

-- the order of a number in another state
abbrev pub with_state : OrderState → ℕ → OrderBooks → OrderBooks
with_state state n b = record b { orders = table.insert b.orders (n ∷ []) (in_state state (order_at n b)) }

-- a line of which so much is done
abbrev pub with_done_of : ℕ → OrderLine → OrderLine
with_done_of done l = record { number = l.number; order = l.order; part = l.part; quantity = l.quantity; done = done }

-- the lines, of one of which so much more is done
abbrev pub done_more : ℕ → ℕ → Table OrderLine → Table OrderLine
done_more n more t = let l = line_in n t in table.insert t (n ∷ []) (with_done_of (l.done + more) l)

abbrev pub with_done : ℕ → ℕ → OrderBooks → OrderBooks
with_done n more b = record b { lines = done_more n more b.lines }

-- orders and allocations as they were, beside other stock books
abbrev pub with_stock_books : StockBooks → OrderBooks → OrderBooks
with_stock_books books b = record { orders = b.orders; lines = b.lines; allocations = b.allocations; books = books }

-- the stock as it was, with one more number drawn
abbrev pub one_drawn : StockBooks → StockBooks
one_drawn b = with_drawn b.stock b

-- ---- beside builds

-- which numbers are an order's and which a build's
abbrev pub owners_beside : (ℕ → Bool) → Table Order → Owners
owners_beside is_build orders = record { is_order = λ n. is_some (table.get orders (n ∷ [])); is_build = is_build }
