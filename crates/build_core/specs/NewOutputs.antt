-- Items that a build makes are begun.
use Rattle.std.specs.Prelude.{ℕ, ◌+◌, ◌&&◌, ◌||◌, is_none, not, nat_lt, List, [], ◌∷◌}
use Rattle.part_core.specs.Catalogue.{Parts, is_trackable, part_in}
use Rattle.word_core.specs.Checks.{Check}
use Rattle.word_core.specs.Day.{CivilDay}
use Rattle.word_core.specs.Quantity.{is_bad_quantity}
use Rattle.word_core.specs.declared.refusal.Refusal.TheVariants.{NoSuch, BadNumber, WrongFlag}
use Rattle.word_core.specs.declared.refusal.Refusal.TheVariants.{WrongState, NotSerialised, OverNeed}
use Rattle.word_core.specs.declared.refusal.Refusal.TheVariants.{SerialCount, SerialTaken, Full}
use Rattle.bom_core.specs.Bills.{Bills}
use Rattle.forest.specs.declared.entry.Kind.TheVariants as kind
use Rattle.forest.specs.declared.place.Place.TheVariants.{Output}
use Rattle.yard_core.specs.StockBooks.{is_full}
use Rattle.yard_core.specs.Outputs.{quantity_out}
use Rattle.stock_core.specs.Serials.{are_many, are_taken, given, is_other_count}
use Rattle.stock_core.specs.Steps.{make_new}
use Rattle.stock_core.specs.declared.arrivals.Arrival.{Arrival}
use Rattle.stock_core.specs.declared.arrivals.NewStock.{NewStock}
use Rattle.build_core.specs.Builds.{BuildBooks, build_at, is_in_production, is_no_build, with_stock_books}
use Rattle.build_core.specs.Needs.{has_tracked}

-- what a build begins comes to its output
abbrev pub begun_at : ℕ → ℕ → Arrival
begun_at build part = record { kind = kind.Found; place = Output build; part = part }

-- the new items are made at the build's output, without an entry
abbrev pub new_outputs : ℕ → NewStock → CivilDay → BuildBooks → BuildBooks
new_outputs n new day b = with_stock_books (make_new (begun_at n (build_at n b).part) new day b.books) b

-- why it is refused, in the order of checks
abbrev pub new_outputs_checks : ℕ → NewStock → CivilDay → Parts → Bills → BuildBooks → List Check
new_outputs_checks n new day parts bills b =
    let build = build_at n b in
    (is_no_build n b, NoSuch)
    ∷ (is_bad_quantity new.quantity || given are_many new.serials, BadNumber)
    ∷ (given (λ _. not (is_trackable (part_in build.part parts))) new.serials, WrongFlag)
    ∷ (not (is_in_production build.state), WrongState)
    ∷ (is_none new.serials && has_tracked parts bills build.part, NotSerialised)
    ∷ (nat_lt build.quantity (build.done + quantity_out n b.books.stock + new.quantity), OverNeed)
    ∷ (given (is_other_count new.quantity) new.serials, SerialCount)
    ∷ (given (are_taken build.part parts b.books.stock) new.serials, SerialTaken)
    ∷ (is_full (new_outputs n new day b).books, Full)
    ∷ []
