-- An amount that was found is added to an item.
use Rattle.std.specs.Prelude.{ℕ, ◌+◌, ◌++◌, not, nat_lt, List, [], ◌∷◌}
use Rattle.word_core.specs.Checks.{Check}
use Rattle.word_core.specs.Day.{CivilDay}
use Rattle.word_core.specs.Quantity.{is_bad_quantity, largest}
use Rattle.word_core.specs.declared.refusal.Refusal.TheVariants.{NoSuch, BadNumber, NotLoose}
use Rattle.word_core.specs.declared.refusal.Refusal.TheVariants.{Serialised, TooLarge, Full}
use Rattle.yard_core.specs.Stock.{grow}
use Rattle.stock_core.specs.ItemTests.{is_loose, is_no_item, is_serialised, quantity_at}
use Rattle.yard_core.specs.StockBooks.{StockBooks, is_full, with_stock}

-- the item gains it
abbrev pub add : ℕ → ℕ → CivilDay → StockBooks → StockBooks
add n quantity day b = with_stock (grow n quantity day b.stock) b

-- why it is refused whatever the limits are, in the order of checks
abbrev pub add_asks : ℕ → ℕ → StockBooks → List Check
add_asks n quantity b =
    (is_no_item n b.stock, NoSuch)
    ∷ (is_bad_quantity quantity, BadNumber)
    ∷ (not (is_loose n b.stock), NotLoose)
    ∷ (is_serialised n b.stock, Serialised)
    ∷ (nat_lt largest (quantity_at b.stock n + quantity), TooLarge)
    ∷ []

-- why it is refused
abbrev pub add_checks : ℕ → ℕ → CivilDay → StockBooks → List Check
add_checks n quantity day b = add_asks n quantity b ++ (is_full (add n quantity day b), Full) ∷ []
