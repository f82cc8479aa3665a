-- Stock that was found: new items at a location.
use Rattle.std.specs.Prelude.{ℕ, ◌||◌, is_none, not, List, [], ◌∷◌}
use Rattle.part_core.specs.Catalogue.{Parts, is_retired, is_trackable, is_virtual, part_in}
use Rattle.word_core.specs.Checks.{Check}
use Rattle.word_core.specs.Day.{CivilDay}
use Rattle.word_core.specs.Quantity.{is_bad_quantity}
use Rattle.word_core.specs.declared.refusal.Refusal.TheVariants.{NoSuch, BadNumber, WrongFlag, Retired}
use Rattle.word_core.specs.declared.refusal.Refusal.TheVariants.{SerialCount, SerialTaken, Full}
use Rattle.forest.specs.declared.entry.Kind.TheVariants as kind
use Rattle.forest.specs.declared.place.Place.TheVariants.{At}
use Rattle.stock_core.specs.declared.arrivals.NewStock.{NewStock}
use Rattle.stock_core.specs.ItemTests.{is_no_location}
use Rattle.yard_core.specs.StockBooks.{StockBooks, is_full}
use Rattle.stock_core.specs.Serials.{are_many, are_taken, given, is_other_count}
use Rattle.stock_core.specs.Steps.{make_new}

-- the new items are made
abbrev pub found : ℕ → ℕ → NewStock → CivilDay → StockBooks → StockBooks
found part location new day b = make_new (record { kind = kind.Found; place = At location; part = part }) new day b

-- why it is refused, in the order of checks
abbrev pub found_checks : ℕ → ℕ → NewStock → CivilDay → Parts → StockBooks → List Check
found_checks part location new day parts b =
    (is_none (part_in part parts) || is_no_location location b.stock, NoSuch)
    ∷ (is_bad_quantity new.quantity || given are_many new.serials, BadNumber)
    ∷ (is_virtual (part_in part parts) || given (λ _. not (is_trackable (part_in part parts))) new.serials, WrongFlag)
    ∷ (is_retired (part_in part parts), Retired)
    ∷ (given (is_other_count new.quantity) new.serials, SerialCount)
    ∷ (given (are_taken part parts b.stock) new.serials, SerialTaken)
    ∷ (is_full (found part location new day b), Full)
    ∷ []
