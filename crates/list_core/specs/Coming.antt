-- What is still to come of parts by purchases that are under way.
use Rattle.std.specs.Prelude.{◌≡◌, ℕ, ◌+◌, ◌-◌, ◌==◌, if◌then◌else◌, List, [], ◌∷◌, sum_by, Option, Some, None}
use Rattle.std.specs.FinMap as table
use Rattle.sheet_core.specs.Sheet.{Table}
use Rattle.order_core.specs.declared.line.OrderLine.{OrderLine}
use Rattle.desk_core.specs.Machine.{State}
use Rattle.list_core.specs.ReceiptSheet.{awaited}
use Rattle.list_core.specs.declared.coming.Coming.{Coming}

-- what is still to come of a part by these lines
abbrev pub coming_by : ℕ → List OrderLine → ℕ
coming_by part lines = sum_by (λ l. if l.part == part then l.quantity - l.done else 0) lines

-- the same by each line of which something is still to come, of purchases that are under way
abbrev pub coming_amount : ℕ → State → ℕ
coming_amount part s = coming_by part (awaited None s)

-- ---- as a table, of which each row has what is to come of the part whose number it stands under

abbrev pub amount_in : Option Coming → ℕ
amount_in None = 0
amount_in (Some coming) = coming.amount

-- what the table has of a part: nothing where there is no row
abbrev pub coming_in : ℕ → Table Coming → ℕ
coming_in part t = amount_in (table.get t (part ∷ []))

-- the table, with what is still to come by one more line
abbrev pub with_line : OrderLine → Table Coming → Table Coming
with_line line t =
    table.insert t (line.part ∷ [])
    (record { part = line.part; amount = coming_in line.part t + (line.quantity - line.done) })

-- the same of each line
abbrev pub gathered : List OrderLine → Table Coming → Table Coming
gathered [] t = t
gathered (l ∷ ls) t = gathered ls (with_line l t)

-- it has what is to come of each part
abbrev pub AreComing : State → Table Coming → Type 0
AreComing s t = (part : ℕ) → coming_in part t ≡ coming_amount part s
