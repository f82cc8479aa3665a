-- Lines and substitutes as rows of a file: id, assembly, component, quantity, flags; and id, line, part.
use Rattle.std.specs.Prelude.{ℕ, ◌+◌, ◌*◌, nat_lt, List, [], ◌∷◌, Option, Some, None, if◌then◌else◌}
use Rattle.sheet_core.specs.declared.column.Column.{Column}
use Rattle.sheet_core.specs.declared.column.Column.TheVariants.{Whole}
use Rattle.sheet_core.specs.Columns.{◌>>=◌, has, is_bit, number_at, yes_number}
use Rattle.bom_core.specs.declared.line.Line.{Line}
use Rattle.bom_core.specs.declared.line.LineFlags.{LineFlags}
use Rattle.bom_core.specs.declared.substitute.Substitute.{Substitute}

-- ---- lines

-- flags as a number, each a bit of it
abbrev pub line_flags_number : LineFlags → ℕ
line_flags_number f =
    yes_number f.optional + 2 * yes_number f.consumable + 4 * yes_number f.inherited + 8 * yes_number f.variants

abbrev pub line_flags_of_bits : ℕ → LineFlags
line_flags_of_bits n =
    record { optional = is_bit 1 n; consumable = is_bit 2 n; inherited = is_bit 4 n; variants = is_bit 8 n }

-- the flags of a number, where it is one of flags
abbrev pub line_flags_of : ℕ → Option LineFlags
line_flags_of n = if nat_lt n 16 then Some (line_flags_of_bits n) else None

abbrev pub line_flags_at : ℕ → List Column → Option LineFlags
line_flags_at i columns = do
  n ← number_at i columns
  line_flags_of n

abbrev pub line_columns : Line → List Column
line_columns row =
    Whole row.number ∷ Whole row.assembly ∷ Whole row.component ∷ Whole row.quantity
    ∷ Whole (line_flags_number row.flags) ∷ []

abbrev pub line_from : List Column → Option Line
line_from columns = do
  whole ← has 5 columns
  number ← number_at 0 columns
  assembly ← number_at 1 columns
  component ← number_at 2 columns
  quantity ← number_at 3 columns
  flags ← line_flags_at 4 columns
  Some (record { number = number; assembly = assembly; component = component; quantity = quantity; flags = flags })

-- ---- substitutes

abbrev pub substitute_columns : Substitute → List Column
substitute_columns row = Whole row.number ∷ Whole row.line ∷ Whole row.part ∷ []

abbrev pub substitute_from : List Column → Option Substitute
substitute_from columns = do
  whole ← has 3 columns
  number ← number_at 0 columns
  line ← number_at 1 columns
  part ← number_at 2 columns
  Some (record { number = number; line = line; part = part })
