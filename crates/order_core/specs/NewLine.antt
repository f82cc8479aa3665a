-- A new line of an order: so many of a part.
use Rattle.std.specs.Prelude.{ℕ, ◌||◌, not, is_none, Bool, List, [], ◌∷◌}
use Rattle.std.specs.FinMap as table
use Rattle.part_core.specs.Catalogue.{Parts, is_flagged, is_retired, is_virtual, part_in}
use Rattle.word_core.specs.Checks.{Check}
use Rattle.word_core.specs.Counter.{passes_limit}
use Rattle.word_core.specs.Quantity.{is_bad_quantity}
use Rattle.word_core.specs.declared.refusal.Refusal.TheVariants.{NoSuch, BadNumber, WrongFlag}
use Rattle.word_core.specs.declared.refusal.Refusal.TheVariants.{Retired, WrongState, Full}
use Rattle.order_core.specs.Orders.{OrderBooks, is_no_order, is_open, one_drawn, order_at}
use Rattle.order_core.specs.declared.line.OrderLine.{OrderLine}
use Rattle.word_core.specs.declared.side.Side.{Side}
use Rattle.word_core.specs.declared.side.Side.TheVariants.{Purchase, Sale}

-- the part may be bought, or may be sold
abbrev pub is_suited : Side → ℕ → Parts → Bool
is_suited Purchase part parts = is_flagged (λ p. p.flags.purchaseable) (part_in part parts)
is_suited Sale part parts = is_flagged (λ p. p.flags.salable) (part_in part parts)

abbrev pub line_row : ℕ → ℕ → ℕ → ℕ → OrderLine
line_row n order part quantity = record { number = n; order = order; part = part; quantity = quantity; done = 0 }

-- a line under the next number, of which nothing is done
abbrev pub new_line : ℕ → ℕ → ℕ → OrderBooks → OrderBooks
new_line order part quantity b =
    let n = b.books.counter.next in
    record b { lines = table.insert b.lines (n ∷ []) (line_row n order part quantity); books = one_drawn b.books }

-- why it is refused, in the order of checks
abbrev pub new_line_checks : ℕ → ℕ → ℕ → Parts → OrderBooks → List Check
new_line_checks order part quantity parts b =
    (is_no_order order b || is_none (part_in part parts), NoSuch)
    ∷ (is_bad_quantity quantity, BadNumber)
    ∷ (not (is_suited (order_at order b).side part parts) || is_virtual (part_in part parts), WrongFlag)
    ∷ (is_retired (part_in part parts), Retired)
    ∷ (not (is_open (order_at order b).state), WrongState)
    ∷ (passes_limit (new_line order part quantity b).books.counter, Full)
    ∷ []
