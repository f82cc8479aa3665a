-- What a contract sees of the floor that a command is lent.
use Rattle.sheet_core.specs.Sheet.{Table}
use Rattle.alloc_core.specs.AllocationsView.{allocations_before, allocations_now}
use Rattle.alloc_core.specs.declared.allocation.Allocation.{Allocation}
use Rattle.yard_core.specs.StockBooks.{StockBooks}
use Rattle.yard_core.specs.BooksView.{books_before, books_now}
use Rattle.stock_core.specs.declared.floor.Floor.{Floor}

-- the allocations, and the stock books that they are of
pub record FloorBooks : Type 0 where
  pub allocations : Table Allocation
  pub books : StockBooks

abbrev pub floor_now : Floor → FloorBooks
floor_now f = record { allocations = allocations_now f.allocations; books = books_now f.stock }

abbrev pub floor_before : Floor → FloorBooks
floor_before f = record { allocations = allocations_before f.allocations; books = books_before f.stock }
