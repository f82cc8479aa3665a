-- An output is given up.
use Rattle.std.specs.Prelude.{ℕ, List, [], ◌∷◌}
use Rattle.word_core.specs.Checks.{Check}
use Rattle.word_core.specs.Day.{CivilDay}
use Rattle.word_core.specs.declared.refusal.Refusal.TheVariants.{NoSuch, WrongState}
use Rattle.forest.specs.declared.place.Place.TheVariants.{Gone}
use Rattle.alloc_core.specs.declared.purpose.Owner.TheVariants as owner
use Rattle.yard_core.specs.StockBooks.{with_stock}
use Rattle.yard_core.specs.Stock.{lift}
use Rattle.stock_core.specs.ItemTests.{is_no_item}
use Rattle.build_core.specs.Builds.{BuildBooks, with_stock_books, without_allocations}
use Rattle.build_core.specs.CompleteOutput.{is_no_output}

-- its allocations go, and it is gone, without an entry
abbrev pub cancel_output : ℕ → CivilDay → BuildBooks → BuildBooks
cancel_output n day b =
    with_stock_books (with_stock (lift n Gone day b.books.stock) b.books) (without_allocations (owner.Output n) b)

-- why it is refused, in the order of checks
abbrev pub cancel_output_checks : ℕ → BuildBooks → List Check
cancel_output_checks n b = (is_no_item n b.books.stock, NoSuch) ∷ (is_no_output n b, WrongState) ∷ []
