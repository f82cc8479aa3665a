-- A new location, under a parent or at the top.
use Rattle.std.specs.Prelude.{ℕ, List, [], ◌∷◌, Option}
use Rattle.std.specs.FinMap as table
use Rattle.part_core.specs.Catalogue.{is_missing}
use Rattle.word_core.specs.Checks.{Check}
use Rattle.word_core.specs.Counter.{passes_limit}
use Rattle.part_core.specs.NamedRows.{is_named}
use Rattle.word_core.specs.declared.refusal.Refusal.TheVariants.{NoSuch, NameTaken, Full}
use Rattle.yard_core.specs.StockBooks.{StockBooks, with_drawn}
use Rattle.yard_core.specs.Stock.{Stock, has_location}

-- the stock with a location under that number
abbrev pub with_location : ℕ → List ℕ → Option ℕ → Stock → Stock
with_location n name parent s =
    record s { locations = table.insert s.locations (n ∷ []) (record { number = n; name = name; parent = parent }) }

-- a location under the next number
abbrev pub add_location : List ℕ → Option ℕ → StockBooks → StockBooks
add_location name parent b = with_drawn (with_location b.counter.next name parent b.stock) b

-- why it is refused, in the order of checks
abbrev pub add_location_checks : List ℕ → Option ℕ → StockBooks → List Check
add_location_checks name parent b =
    (is_missing parent (λ n. has_location n b.stock), NoSuch)
    ∷ (is_named name parent b.stock.locations, NameTaken)
    ∷ (passes_limit (add_location name parent b).counter, Full)
    ∷ []
