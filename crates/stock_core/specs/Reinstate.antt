-- What was written off comes back.
use Rattle.std.specs.Prelude.{ℕ, ◌||◌, not, List, [], ◌∷◌}
use Rattle.word_core.specs.Checks.{Check}
use Rattle.word_core.specs.Day.{CivilDay}
use Rattle.word_core.specs.declared.refusal.Refusal.TheVariants.{NoSuch, WrongState, Full}
use Rattle.forest.specs.declared.place.Place.TheVariants.{At}
use Rattle.forest.specs.Forest.{is_off}
use Rattle.yard_core.specs.StockBooks.{StockBooks, is_full, with_stock}
use Rattle.yard_core.specs.Stock.{item_at, lift}
use Rattle.stock_core.specs.ItemTests.{is_no_item, is_no_location}

-- it goes to a location, with all that lies in it
abbrev pub reinstate : ℕ → ℕ → CivilDay → StockBooks → StockBooks
reinstate n location day b = with_stock (lift n (At location) day b.stock) b

-- why it is refused, in the order of checks
abbrev pub reinstate_checks : ℕ → ℕ → CivilDay → StockBooks → List Check
reinstate_checks n location day b =
    (is_no_item n b.stock || is_no_location location b.stock, NoSuch)
    ∷ (not (is_off (item_at n b.stock).place), WrongState)
    ∷ (is_full (reinstate n location day b), Full)
    ∷ []
