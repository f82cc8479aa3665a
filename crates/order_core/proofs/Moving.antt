-- What holds of each move of the stock holds of all that a command on orders does to it.
use Rattle.word_core.specs.Day.{CivilDay}
use Rattle.word_core.specs.declared.status.Status.TheVariants.{Returned}
use Rattle.forest.specs.declared.place.Place.TheVariants.{At, Sent}
use Rattle.yard_core.specs.StockBooks.{with_stock}
use Rattle.yard_core.specs.Stock.{Stock, lift}
use Rattle.stock_core.proofs.Moving.{HoldsOfMoves, OnStock, of-lift, of-make_new, of-mark, of-serve_each}
use Rattle.order_core.specs.OrderMachine.{effect}
use Rattle.order_core.specs.Orders.{OrderBooks, line_at}
use Rattle.order_core.specs.Receive.{arrival_at}
use Rattle.order_core.specs.ReturnItem.{return_item}
use Rattle.order_core.specs.Ship.{sale_rows, sent_for}
use Rattle.order_core.specs.declared.order_command.OrderCommand.{OrderCommand}
use Rattle.order_core.specs.declared.order_command.OrderCommand.TheVariants.{Receive, ReturnItem, Ship}

module _ (R : Stock → Stock → Type 0) (holds : HoldsOfMoves (OnStock R)) where
  pub of-effect : (c : OrderCommand) (day : CivilDay) (b : OrderBooks) → R b.books.stock (effect c day b).books.stock
  of-effect (Receive line location new) day b =
      of-make_new (OnStock R) holds (arrival_at (line_at line b).part location) new day b.books
  of-effect (Ship order) day b =
      of-serve_each (OnStock R) holds (sent_for order day) (λ t. of-lift (OnStock R) holds t.1 (Sent order) day t.0)
      (sale_rows order b) day b.books
  of-effect (ReturnItem item location) day b =
      let back = with_stock (lift item (At location) day b.books.stock) b.books in
      holds.more b.books back (return_item item location day b.books)
      (of-lift (OnStock R) holds item (At location) day b.books) (of-mark (OnStock R) holds item Returned day back)
  of-effect c day b = holds.none b.books
