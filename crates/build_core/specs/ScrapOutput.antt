-- An output is done, and written off.
use Rattle.std.specs.Prelude.{ℕ, List, [], ◌∷◌}
use Rattle.word_core.specs.Checks.{Check}
use Rattle.word_core.specs.Day.{CivilDay}
use Rattle.word_core.specs.declared.refusal.Refusal.TheVariants.{NoSuch, WrongState, Full}
use Rattle.forest.specs.declared.place.Place.TheVariants.{Off}
use Rattle.forest.specs.declared.place.Reason.TheVariants.{Scrapped}
use Rattle.alloc_core.specs.declared.purpose.Owner.TheVariants as owner
use Rattle.yard_core.specs.StockBooks.{StockBooks, is_full, with_stock}
use Rattle.yard_core.specs.Stock.{lift}
use Rattle.stock_core.specs.ItemTests.{is_no_item}
use Rattle.build_core.specs.Builds.{BuildBooks, with_stock_books, without_allocations}
use Rattle.build_core.specs.CompleteOutput.{is_no_output}

-- it is off the books
abbrev pub scrapped : ℕ → CivilDay → StockBooks → StockBooks
scrapped n day b = with_stock (lift n (Off Scrapped) day b.stock) b

-- its allocations go, and it is off the books
abbrev pub scrap_output : ℕ → CivilDay → BuildBooks → BuildBooks
scrap_output n day b = with_stock_books (scrapped n day b.books) (without_allocations (owner.Output n) b)

-- why it is refused, in the order of checks
abbrev pub scrap_output_checks : ℕ → CivilDay → BuildBooks → List Check
scrap_output_checks n day b =
    (is_no_item n b.books.stock, NoSuch) ∷ (is_no_output n b, WrongState)
    ∷ (is_full (scrap_output n day b).books, Full) ∷ []
