-- No command on stock, on orders or on builds touches the locations.
use Rattle.std.proofs.Common.{◌≡◌, refl, ◌∙◌}
use Rattle.part_core.specs.Catalogue.{Parts}
use Rattle.word_core.specs.Day.{CivilDay}
use Rattle.bom_core.specs.Bills.{Bills}
use Rattle.yard_core.specs.Stock.{Stock}
use Rattle.yard_core.specs.StockBooks.{StockBooks}
use Rattle.stock_core.specs.StockMachine as stock
use Rattle.stock_core.specs.declared.stock_command.StockCommand.{StockCommand}
use Rattle.stock_core.proofs.Moving as on_stock
use Rattle.order_core.specs.OrderMachine as order
use Rattle.order_core.specs.Orders.{OrderBooks}
use Rattle.order_core.specs.declared.order_command.OrderCommand.{OrderCommand}
use Rattle.order_core.proofs.Moving as on_orders
use Rattle.build_core.specs.BuildMachine as build
use Rattle.build_core.specs.Builds.{BuildBooks}
use Rattle.build_core.specs.declared.build_command.BuildCommand.{BuildCommand}
use Rattle.build_core.proofs.Moving as on_builds

abbrev AreSame : Stock → Stock → Type 0
AreSame s t = t.locations ≡ s.locations

-- no move does
moves-same : on_stock.HoldsOfMoves (on_stock.OnStock AreSame)
moves-same = record {
  none = λ b. refl;
  more = λ b c d first second. second ∙ first;
  move = λ rows notes day b. refl;
  drawn = λ rows notes day b. refl;
}

pub same-on_stock : (c : StockCommand) (day : CivilDay) (b : StockBooks)
    → (stock.effect c day b).stock.locations ≡ b.stock.locations
same-on_stock c day b = on_stock.of-effect (on_stock.OnStock AreSame) moves-same c day b

pub same-on_orders : (c : OrderCommand) (day : CivilDay) (b : OrderBooks)
    → (order.effect c day b).books.stock.locations ≡ b.books.stock.locations
same-on_orders c day b = on_orders.of-effect AreSame moves-same c day b

pub same-on_builds : (c : BuildCommand) (day : CivilDay) (parts : Parts) (bills : Bills) (b : BuildBooks)
    → (build.effect c day parts bills b).books.stock.locations ≡ b.books.stock.locations
same-on_builds c day parts bills b = on_builds.of-effect AreSame moves-same c day parts bills b
