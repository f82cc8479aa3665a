-- No command on orders takes a row of orders, of lines or of the stock away.
use Rattle.std.proofs.Common.{◌≡◌, ℕ, ◌+◌, true, [], ◌∷◌, Option, Some, None, refl, ap, ◌∙◌, is_some}
use Rattle.std.specs.Prelude.{option_map}
use Rattle.std.specs.FinMap as table
use Rattle.word_core.specs.Day.{CivilDay}
use Rattle.sheet_core.specs.Rows.{StayThere}
use Rattle.sheet_core.specs.Sheet.{Table}
use Rattle.sheet_core.specs.TableRows.{mapped}
use Rattle.sheet_core.proofs.Mapped.{get-mapped}
use Rattle.sheet_core.proofs.RowLemmas.{stay-insert}
use Rattle.yard_core.specs.Stock.{AllStay}
use Rattle.stock_core.proofs.Staying.{moves-stay}
use Rattle.order_core.specs.NewLine.{line_row}
use Rattle.order_core.specs.NewOrder.{order_row}
use Rattle.order_core.specs.OrderMachine.{RowsStay, effect}
use Rattle.order_core.specs.Orders.{OrderBooks, in_state, line_in, order_at, with_done_of}
use Rattle.order_core.specs.Ship.{delivered, sale_rows}
use Rattle.order_core.specs.declared.state.OrderState.{OrderState}
use Rattle.order_core.specs.declared.state.OrderState.TheVariants.{InProgress, Complete, Cancelled}
use Rattle.order_core.specs.declared.order_command.OrderCommand.{OrderCommand}
use Rattle.order_core.specs.declared.order_command.OrderCommand.TheVariants.{NewOrder, NewLine, IssueOrder, Receive}
use Rattle.order_core.specs.declared.order_command.OrderCommand.TheVariants.{Ship, CloseOrder, CancelOrder}
use Rattle.order_core.proofs.Moving.{of-effect}

stay-mapped : {X : Type 0} (change : X → X) (t : Table X) → StayThere t (mapped change t)
stay-mapped {X = X} change t k h = ap (λ o. is_some o) (get-mapped change t k) ∙ go (table.get t k) h
  where
    go : (o : Option X) → is_some o ≡ true → is_some (option_map change o) ≡ true
    go None e = e
    go (Some x) e = refl

stay-state : (state : OrderState) (n : ℕ) (b : OrderBooks)
    → StayThere b.orders (table.insert b.orders (n ∷ []) (in_state state (order_at n b)))
stay-state state n b = stay-insert b.orders (n ∷ []) (in_state state (order_at n b))

orders-stay : (c : OrderCommand) (day : CivilDay) (b : OrderBooks) → StayThere b.orders (effect c day b).orders
orders-stay (NewOrder side partner) day b =
    let n = b.books.counter.next in stay-insert b.orders (n ∷ []) (order_row n side partner)
orders-stay (IssueOrder order) day b = stay-state InProgress order b
orders-stay (CloseOrder order) day b = stay-state Complete order b
orders-stay (CancelOrder order) day b = stay-state Cancelled order b
orders-stay c day b = λ k h. h

lines-stay : (c : OrderCommand) (day : CivilDay) (b : OrderBooks) → StayThere b.lines (effect c day b).lines
lines-stay (NewLine order part quantity) day b =
    let n = b.books.counter.next in stay-insert b.lines (n ∷ []) (line_row n order part quantity)
lines-stay (Receive line location new) day b =
    let l = line_in line b.lines in stay-insert b.lines (line ∷ []) (with_done_of (l.done + new.quantity) l)
lines-stay (Ship order) day b = stay-mapped (delivered (sale_rows order b)) b.lines
lines-stay c day b = λ k h. h

pub rows-stay : RowsStay
rows-stay c day b = record {
  orders = orders-stay c day b;
  lines = lines-stay c day b;
  stock = of-effect AllStay moves-stay c day b;
}
