-- The steps that commands are made of, on the books: each draws its number as it goes.
use Rattle.std.specs.Prelude.{ℕ, if◌then◌else◌, List, [], ◌∷◌, Option, Some, None}
use Rattle.word_core.specs.Day.{CivilDay}
use Rattle.word_core.specs.declared.status.Status.TheVariants.{Okay}
use Rattle.forest.specs.declared.item.Item.{Item}
use Rattle.yard_core.specs.Stock.{cut, make}
use Rattle.stock_core.specs.declared.arrivals.Arrival.{Arrival}
use Rattle.stock_core.specs.declared.arrivals.NewStock.{NewStock}
use Rattle.stock_core.specs.ItemTests.{has_more}
use Rattle.yard_core.specs.StockBooks.{StockBooks, with_drawn}

-- ---- new items

-- a new item, Okay
abbrev pub new_item : ℕ → Arrival → ℕ → Option (List ℕ) → Option (List ℕ) → Item
new_item n a quantity batch serial =
    record {
      number = n;
      part = a.part;
      lot = record { batch = batch; serial = serial; status = Okay };
      quantity = quantity;
      place = a.place;
    }

-- a new item under the next number
abbrev pub make_one : Arrival → ℕ → Option (List ℕ) → Option (List ℕ) → CivilDay → StockBooks → StockBooks
make_one a quantity batch serial day b =
    with_drawn (make a.kind (new_item b.counter.next a quantity batch serial) day b.stock) b

-- a new item of a single piece for each serial, in their order
abbrev pub make_each : Arrival → Option (List ℕ) → List (List ℕ) → CivilDay → StockBooks → StockBooks
make_each a batch [] day b = b
make_each a batch (x ∷ xs) day b = make_each a batch xs day (make_one a 1 batch (Some x) day b)

-- without serials one new item of the whole quantity, else one for each
abbrev pub make_new : Arrival → NewStock → CivilDay → StockBooks → StockBooks
make_new a new day b = by_serials new.serials
  where
    by_serials : Option (List (List ℕ)) → StockBooks
    by_serials None = make_one a new.quantity new.batch None day b
    by_serials (Some serials) = make_each a new.batch serials day b

-- ---- pieces of items

-- an amount is cut off an item, under the next number
abbrev pub cut_off : ℕ → ℕ → Option (List ℕ) → CivilDay → StockBooks → StockBooks
cut_off n quantity serial day b = with_drawn (cut n quantity b.counter.next serial day b.stock) b

-- a single piece is cut off for each serial, in their order
abbrev pub cut_each : ℕ → List (List ℕ) → CivilDay → StockBooks → StockBooks
cut_each n [] day b = b
cut_each n (x ∷ xs) day b = cut_each n xs day (cut_off n 1 (Some x) day b)

-- where less than the whole item is meant, the amount is cut off it and is gone on with; else the item itself
abbrev pub take : ℕ → ℕ → CivilDay → StockBooks → StockBooks × ℕ
take n quantity day b = if has_more n quantity b.stock then (cut_off n quantity None day b, b.counter.next) else (b, n)
