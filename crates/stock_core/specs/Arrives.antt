-- When new items can be made, and how many there are.
use Rattle.std.specs.Prelude.{◌≡◌, ℕ, ◌+◌, ◌<◌, ◌≤◌, ◌^◌, false, List, length, Option, Some, None}
use Rattle.word_core.specs.Counter.{lacks}
use Rattle.sheet_core.specs.Rows.{StandRight}
use Rattle.forest.specs.Moves as moves
use Rattle.yard_core.specs.StockBooks.{StockBooks}
use Rattle.yard_core.specs.Stock.{IsSound, next_entry}
use Rattle.stock_core.specs.declared.arrivals.Arrival.{Arrival}

-- how many new items there are: one without serials, else one for each
abbrev pub count_of : Option (List (List ℕ)) → ℕ
count_of None = 1
count_of (Some serials) = length serials

-- stock comes to a location, with an entry of the kind, or is begun at the output of a build
abbrev pub IsArrival : Arrival → Type 0
IsArrival a = moves.CanMake a.kind a.place

-- the stock is sound, and there is room for so many items
pub record HasRoom (count : ℕ) (b : StockBooks) : Type 0 where
  pub stock : IsSound b.stock
  pub some : 1 ≤ b.counter.next
  pub rows : StandRight (λ i. i.number) b.counter.next b.stock.items
  pub numbers : lacks count b.counter ≡ false
  pub entries : next_entry b.stock + count < 2 ^ 64
