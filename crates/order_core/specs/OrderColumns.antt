-- Orders and their lines as rows of a file: id, side, partner, state; and id, owner, part, quantity, done.
use Rattle.std.specs.Prelude.{ℕ, ◌==◌, List, [], ◌∷◌, Option, Some}
use Rattle.std.specs.List.{find}
use Rattle.sheet_core.specs.declared.column.Column.{Column}
use Rattle.sheet_core.specs.declared.column.Column.TheVariants.{Whole, Text}
use Rattle.word_core.specs.declared.side.Side.{Side}
use Rattle.sheet_core.specs.Columns.{◌>>=◌, has, number_at}
use Rattle.part_core.specs.TextColumns.{row_text_at}
use Rattle.word_core.specs.Side.{side_code, side_of}
use Rattle.order_core.specs.declared.line.OrderLine.{OrderLine}
use Rattle.order_core.specs.declared.order.Order.{Order}
use Rattle.order_core.specs.declared.state.OrderState.{OrderState}
use Rattle.order_core.specs.declared.state.OrderState.TheVariants.{Pending, InProgress, Complete, Cancelled}

-- ---- states

-- the states' numbers, no two of which are the same
abbrev pub state_code : OrderState → ℕ
state_code Pending = 0
state_code InProgress = 1
state_code Complete = 2
state_code Cancelled = 3

abbrev pub all_states : List OrderState
all_states = Pending ∷ InProgress ∷ Complete ∷ Cancelled ∷ []

-- the state of that number, if there is one
abbrev pub state_of : ℕ → Option OrderState
state_of n = find (λ s. state_code s == n) all_states

abbrev pub state_at : ℕ → List Column → Option OrderState
state_at i columns = do
  code ← number_at i columns
  state_of code

abbrev pub side_at : ℕ → List Column → Option Side
side_at i columns = do
  code ← number_at i columns
  side_of code

-- ---- orders

abbrev pub order_columns : Order → List Column
order_columns row = Whole row.number ∷ Whole (side_code row.side) ∷ Text row.partner ∷ Whole (state_code row.state) ∷ []

abbrev pub order_from : List Column → Option Order
order_from columns = do
  whole ← has 4 columns
  number ← number_at 0 columns
  side ← side_at 1 columns
  partner ← row_text_at 2 columns
  state ← state_at 3 columns
  Some (record { number = number; side = side; partner = partner; state = state })

-- ---- lines

abbrev pub line_columns : OrderLine → List Column
line_columns row = Whole row.number ∷ Whole row.order ∷ Whole row.part ∷ Whole row.quantity ∷ Whole row.done ∷ []

abbrev pub line_from : List Column → Option OrderLine
line_from columns = do
  whole ← has 5 columns
  number ← number_at 0 columns
  order ← number_at 1 columns
  part ← number_at 2 columns
  quantity ← number_at 3 columns
  done ← number_at 4 columns
  Some (record { number = number; order = order; part = part; quantity = quantity; done = done })
