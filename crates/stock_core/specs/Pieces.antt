-- When pieces can be cut off an item.
use Rattle.std.specs.Prelude.{◌≡◌, ℕ, ◌+◌, ◌<◌, ◌≤◌, ◌^◌, true, false, [], ◌∷◌, List, Option, Some, None}
use Rattle.std.specs.FinMap as table
use Rattle.word_core.specs.Counter.{lacks}
use Rattle.forest.specs.Forest.{is_at}
use Rattle.yard_core.specs.StockBooks.{StockBooks}
use Rattle.yard_core.specs.Stock.{CanCutItem, IsSound, item_at, next_entry}

-- an amount can be cut off the item, under the next number
pub record CanCut (n quantity : ℕ) (serial : Option (List ℕ)) (b : StockBooks) : Type 0 where
  pub stock : IsSound b.stock
  pub item : CanCutItem n quantity b.counter.next serial b.stock
  pub number : lacks 1 b.counter ≡ false
  pub entry : next_entry b.stock + 1 < 2 ^ 64

-- a loose item without serial, that has so much at least
pub record IsWhole (n quantity : ℕ) (b : StockBooks) : Type 0 where
  pub there : table.get b.stock.items (n ∷ []) ≡ Some (item_at n b.stock)
  pub loose : is_at (item_at n b.stock).place ≡ true
  pub plain : (item_at n b.stock).lot.serial ≡ None
  pub enough : quantity ≤ (item_at n b.stock).quantity
