-- What commands of other crates owe to orders: where they leave this, orders stay sound beside what they do.
use Rattle.part_core.specs.Catalogue.{Parts}
use Rattle.sheet_core.specs.Sheet.{Table}
use Rattle.alloc_core.specs.Allocations.{is_for_sale}
use Rattle.alloc_core.specs.NoneComes.{NoneComes}
use Rattle.alloc_core.specs.Sound.{AreSoundAllocations}
use Rattle.alloc_core.specs.declared.allocation.Allocation.{Allocation}
use Rattle.yard_core.specs.StockBooks.{StockBooks}
use Rattle.stock_core.specs.StockMachine.{Grows}
use Rattle.order_core.specs.Orders.{OrderBooks}
use Rattle.order_core.specs.Sound.{AreSoundOrders}

-- the orders and lines as they were, beside other allocations and other books
abbrev pub beside : Table Allocation → StockBooks → OrderBooks → OrderBooks
beside allocations books b = record { orders = b.orders; lines = b.lines; allocations = allocations; books = books }

-- where allocations for builds come, and any go, and numbers and history only grow
abbrev pub SoundBesideBuilds : Type 0
SoundBesideBuilds =
    (parts : Parts) (b : OrderBooks) (allocations : Table Allocation) (books : StockBooks)
    → AreSoundAllocations b.allocations b.books → Grows b.books books
    → NoneComes is_for_sale b.allocations allocations → AreSoundOrders parts b
    → AreSoundOrders parts (beside allocations books b)
