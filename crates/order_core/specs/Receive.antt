-- Stock comes by a line of a purchase.
use Rattle.std.specs.Prelude.{ℕ, ◌+◌, ◌||◌, not, nat_lt, List, [], ◌∷◌}
use Rattle.part_core.specs.Catalogue.{Parts, is_trackable, part_in}
use Rattle.word_core.specs.Checks.{Check}
use Rattle.word_core.specs.Day.{CivilDay}
use Rattle.word_core.specs.Quantity.{is_bad_quantity}
use Rattle.word_core.specs.declared.refusal.Refusal.TheVariants.{NoSuch, BadNumber, WrongFlag, WrongState, Mismatch}
use Rattle.word_core.specs.declared.refusal.Refusal.TheVariants.{OverNeed, SerialCount, SerialTaken, Full}
use Rattle.forest.specs.declared.entry.Kind.TheVariants as kind
use Rattle.forest.specs.declared.place.Place.TheVariants.{At}
use Rattle.yard_core.specs.StockBooks.{is_full}
use Rattle.stock_core.specs.ItemTests.{is_no_location}
use Rattle.stock_core.specs.Serials.{are_many, are_taken, given, is_other_count}
use Rattle.stock_core.specs.Steps.{make_new}
use Rattle.stock_core.specs.declared.arrivals.Arrival.{Arrival}
use Rattle.stock_core.specs.declared.arrivals.NewStock.{NewStock}
use Rattle.word_core.specs.Side.{is_sale}
use Rattle.order_core.specs.Orders.{OrderBooks, is_in_progress, is_no_line, line_at, order_of_line, with_done}

-- stock that comes from a supplier
abbrev pub arrival_at : ℕ → ℕ → Arrival
arrival_at part location = record { kind = kind.Received; place = At location; part = part }

-- the new items are made, and so much more of the line is done
abbrev pub receive : ℕ → ℕ → NewStock → CivilDay → OrderBooks → OrderBooks
receive line location new day b = record (with_done line new.quantity b) {
  books = make_new (arrival_at (line_at line b).part location) new day b.books;
}

-- why it is refused, in the order of checks
abbrev pub receive_checks : ℕ → ℕ → NewStock → CivilDay → Parts → OrderBooks → List Check
receive_checks line location new day parts b =
    let l = line_at line b in
    (is_no_line line b || is_no_location location b.books.stock, NoSuch)
    ∷ (is_bad_quantity new.quantity || given are_many new.serials, BadNumber)
    ∷ (given (λ _. not (is_trackable (part_in l.part parts))) new.serials, WrongFlag)
    ∷ (not (is_in_progress (order_of_line line b).state), WrongState)
    ∷ (is_sale (order_of_line line b).side, Mismatch)
    ∷ (nat_lt l.quantity (l.done + new.quantity), OverNeed)
    ∷ (given (is_other_count new.quantity) new.serials, SerialCount)
    ∷ (given (are_taken l.part parts b.books.stock) new.serials, SerialTaken)
    ∷ (is_full (receive line location new day b).books, Full)
    ∷ []
