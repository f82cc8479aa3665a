-- Rows with a name, under a parent or at the top.
use Rattle.std.specs.Prelude.{◌≡◌, ◌<◌, ◌&&◌, ℕ, Bool, nat_lt, List, [], ◌∷◌, ◌++◌, Option, Some, None, is_some, pos}
use Rattle.std.specs.FinMap as table
use Rattle.std.specs.Hash as fed
use Rattle.std.specs.List.{list_any}
use Rattle.std.specs.Str.{bytes_eq}
use Rattle.sheet_core.specs.declared.column.Column.{Column}
use Rattle.sheet_core.specs.declared.column.Column.TheVariants.{Whole, Text}
use Rattle.part_core.specs.declared.named_row.NamedRow.{NamedRow}
use Rattle.sheet_core.specs.Columns.{◌>>=◌, has, number_at, number_or_absent, number_or_none_at}
use Rattle.part_core.specs.TextColumns.{row_text_at}
use Rattle.sheet_core.specs.Indexed.{index_key_of}
use Rattle.word_core.specs.Numbered.{is_same_number, passes_where_named}
use Rattle.sheet_core.specs.Rows.{IsThere}
use Rattle.sheet_core.specs.Sheet.{Table}

-- such a row of a file: id, name, parent
abbrev pub named_columns : NamedRow → List Column
named_columns row = Whole row.number ∷ Text row.name ∷ number_or_absent row.parent ∷ []

abbrev pub named_from : List Column → Option NamedRow
named_from columns = do
  whole ← has 3 columns
  number ← number_at 0 columns
  name ← row_text_at 1 columns
  parent ← number_or_none_at 2 columns
  Some (record { number = number; name = name; parent = parent })

-- the index key of what has the name under this parent
abbrev pub named_key : Option ℕ → List ℕ → ℕ
named_key None name = index_key_of (fed.isize (pos 0) ++ fed.str name)
named_key (Some parent) name = index_key_of (fed.isize (pos 1) ++ (fed.u64 parent ++ fed.str name))

abbrev pub named_keys : NamedRow → List ℕ
named_keys row = named_key row.parent row.name ∷ []

-- whether a row under this parent has this name
abbrev pub is_named : List ℕ → Option ℕ → Table NamedRow → Bool
is_named name parent rows = list_any (λ r. is_same_number r.parent parent && bytes_eq r.name name) (table.values rows)

-- the parent that the row names is there, and has a smaller number
abbrev pub has_parent : Table NamedRow → NamedRow → Bool
has_parent rows row = passes_where_named (λ n. is_some (table.get rows (n ∷ [])) && nat_lt n row.number) row.parent

abbrev pub HasParent : Table NamedRow → NamedRow → Type 0
HasParent rows row = (n : ℕ) → row.parent ≡ Some n → IsThere rows n × (n < row.number)
