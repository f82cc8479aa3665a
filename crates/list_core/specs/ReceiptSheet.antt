-- The sheet for a delivery: the lines of purchases of which something is still to come, with empty fields for what came.
use Rattle.std.specs.Prelude.{ℕ, ◌+◌, ◌-◌, ◌==◌, ◌&&◌, not, nat_lt, Bool, true, false, is_some, List, [], ◌∷◌, filter}
use Rattle.std.specs.Prelude.{decimal, codes, Option, Some, None, if◌then◌else◌}
use Rattle.std.specs.FinMap as table
use Rattle.part_core.specs.Catalogue.{part_in}
use Rattle.word_core.specs.Side.{is_sale}
use Rattle.order_core.specs.Orders.{is_in_progress}
use Rattle.order_core.specs.declared.line.OrderLine.{OrderLine}
use Rattle.order_core.specs.declared.order.Order.{Order}
use Rattle.desk_core.specs.Machine.{State}
use Rattle.report_core.specs.Fields.{name_of}
use Rattle.report_core.specs.Lines.{Lines}
use Rattle.list_core.specs.HistoryList.{partner_of}

abbrev pub receipt_header : List (List ℕ)
receipt_header =
    codes "number" ∷ codes "line" ∷ codes "order" ∷ codes "partner" ∷ codes "part" ∷ codes "outstanding"
    ∷ codes "location" ∷ codes "quantity" ∷ codes "batch" ∷ codes "serials" ∷ []

-- a purchase that is under way
abbrev pub awaits : Option Order → Bool
awaits None = false
awaits (Some order) = not (is_sale order.side) && is_in_progress order.state

-- whether it is the line's order; any order is, where none is given
abbrev pub is_line_of : Option ℕ → OrderLine → Bool
is_line_of None line = true
is_line_of (Some n) line = line.order == n

-- something of the line is still to come, by a purchase that is under way, by that one where one is given
abbrev pub is_awaited : Option ℕ → State → OrderLine → Bool
is_awaited of s line =
    is_line_of of line && (nat_lt line.done line.quantity && awaits (table.get s.orders (line.order ∷ [])))

-- those lines, by number
abbrev pub awaited : Option ℕ → State → List OrderLine
awaited of s = filter (is_awaited of s) (table.values s.order_lines)

-- the row of that number: a line, its order with the partner, what of which part is still to come, and nothing yet of where
-- it goes, how much came, its batch and its serials
abbrev pub receipt_row : State → ℕ → OrderLine → List (List ℕ)
receipt_row s number line =
    decimal number
    ∷ decimal line.number
    ∷ decimal line.order
    ∷ partner_of s (Some line.order)
    ∷ name_of (part_in line.part s.parts)
    ∷ decimal (line.quantity - line.done)
    ∷ []
    ∷ []
    ∷ []
    ∷ []
    ∷ []

-- rows of lines, numbered from n
abbrev pub receipt_rows : State → ℕ → List OrderLine → Lines
receipt_rows s n [] = []
receipt_rows s n (l ∷ ls) = receipt_row s n l ∷ receipt_rows s (n + 1) ls

abbrev pub is_order_or_none : Option ℕ → State → Bool
is_order_or_none None s = true
is_order_or_none (Some n) s = is_some (table.get s.orders (n ∷ []))

-- each line of which something is still to come, of all purchases that are under way or of the one order; none where there
-- is no such order
abbrev pub receipt_sheet : Option ℕ → State → Option Lines
receipt_sheet of s =
    if is_order_or_none of s then Some (receipt_header ∷ receipt_rows s 1 (awaited of s)) else None
