-- A part as a row of a file: id, name, category, template, flags, retired.
use Rattle.std.specs.Prelude.{ℕ, ◌+◌, ◌*◌, nat_lt, List, [], ◌∷◌, Option, Some, None, if◌then◌else◌}
use Rattle.word_core.specs.declared.flags.Flags.{Flags}
use Rattle.part_core.specs.declared.part.Part.{Part}
use Rattle.sheet_core.specs.declared.column.Column.{Column}
use Rattle.sheet_core.specs.declared.column.Column.TheVariants.{Whole, Text}
use Rattle.sheet_core.specs.Columns.{◌>>=◌, has, number_at, number_or_none_at}
use Rattle.part_core.specs.TextColumns.{row_text_at}
use Rattle.sheet_core.specs.Columns.{yes_at, number_or_absent, yes_number, is_bit}

-- flags as a number, each a bit of it
abbrev pub flags_number : Flags → ℕ
flags_number f =
    yes_number f.template + 2 * yes_number f.assembly + 4 * yes_number f.component + 8 * yes_number f.trackable
    + 16 * yes_number f.purchaseable + 32 * yes_number f.salable + 64 * yes_number f.is_virtual

abbrev pub flags_of_bits : ℕ → Flags
flags_of_bits n = record {
  template = is_bit 1 n;
  assembly = is_bit 2 n;
  component = is_bit 4 n;
  trackable = is_bit 8 n;
  purchaseable = is_bit 16 n;
  salable = is_bit 32 n;
  is_virtual = is_bit 64 n;
}

-- the flags of a number, where it is one of flags
abbrev pub flags_of : ℕ → Option Flags
flags_of n = if nat_lt n 128 then Some (flags_of_bits n) else None

abbrev pub flags_at : ℕ → List Column → Option Flags
flags_at i columns = do
  n ← number_at i columns
  flags_of n

abbrev pub part_columns : Part → List Column
part_columns row =
    Whole row.number ∷ Text row.name ∷ number_or_absent row.category ∷ number_or_absent row.template
    ∷ Whole (flags_number row.flags) ∷ Whole (yes_number row.retired) ∷ []

abbrev pub part_from : List Column → Option Part
part_from columns = do
  whole ← has 6 columns
  number ← number_at 0 columns
  name ← row_text_at 1 columns
  category ← number_or_none_at 2 columns
  template ← number_or_none_at 3 columns
  flags ← flags_at 4 columns
  retired ← yes_at 5 columns
  Some (record {
    number = number;
    name = name;
    category = category;
    template = template;
    flags = flags;
    retired = retired;
  })
