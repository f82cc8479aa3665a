-- An allocation as a row of a file: id, item, quantity, side, owner, line, output.
use Rattle.std.specs.Prelude.{ℕ, ◌==◌, List, [], ◌∷◌, Option, Some, None, if◌then◌else◌}
use Rattle.sheet_core.specs.declared.column.Column.{Column}
use Rattle.sheet_core.specs.declared.column.Column.TheVariants.{Whole}
use Rattle.sheet_core.specs.Columns.{◌>>=◌, has, must, number_at}
use Rattle.alloc_core.specs.declared.allocation.Allocation.{Allocation}
use Rattle.alloc_core.specs.declared.purpose.Purpose.{Purpose}
use Rattle.alloc_core.specs.declared.purpose.Purpose.TheVariants.{Sale, Build}

-- ---- outputs

-- the number that a file has for an output: 0 where there is none
abbrev pub output_number : Option ℕ → ℕ
output_number None = 0
output_number (Some n) = n

abbrev pub output_of : ℕ → Option ℕ
output_of n = if n == 0 then None else Some n

-- ---- purposes

-- for a sale, or for a build
abbrev pub purpose_side : Purpose → ℕ
purpose_side (Sale order line) = 0
purpose_side (Build build line output) = 1

abbrev pub purpose_owner : Purpose → ℕ
purpose_owner (Sale order line) = order
purpose_owner (Build build line output) = build

abbrev pub purpose_line : Purpose → ℕ
purpose_line (Sale order line) = line
purpose_line (Build build line output) = line

abbrev pub purpose_output : Purpose → ℕ
purpose_output (Sale order line) = 0
purpose_output (Build build line output) = output_number output

-- a sale has no output
abbrev pub sale_of : ℕ → ℕ → ℕ → Option Purpose
sale_of order line output = do
  none ← must (output == 0)
  Some (Sale order line)

-- the purpose of these numbers, if there is one
abbrev pub purpose_of : ℕ → ℕ → ℕ → ℕ → Option Purpose
purpose_of side owner line output =
    if side == 0 then sale_of owner line output
    else (if side == 1 then Some (Build owner line (output_of output))
    else None)

abbrev pub purpose_at : List Column → Option Purpose
purpose_at columns = do
  side ← number_at 3 columns
  owner ← number_at 4 columns
  line ← number_at 5 columns
  output ← number_at 6 columns
  purpose_of side owner line output

-- ---- rows

abbrev pub allocation_columns : Allocation → List Column
allocation_columns row =
    Whole row.number ∷ Whole row.item ∷ Whole row.quantity ∷ Whole (purpose_side row.purpose)
    ∷ Whole (purpose_owner row.purpose)
    ∷ Whole (purpose_line row.purpose) ∷ Whole (purpose_output row.purpose) ∷ []

abbrev pub allocation_from : List Column → Option Allocation
allocation_from columns = do
  whole ← has 7 columns
  number ← number_at 0 columns
  item ← number_at 1 columns
  quantity ← number_at 2 columns
  purpose ← purpose_at columns
  Some (record { number = number; item = item; quantity = quantity; purpose = purpose })
