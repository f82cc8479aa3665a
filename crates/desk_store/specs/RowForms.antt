-- How the line of a row is written: as comma-separated values, or as SQL that puts it.
use Rattle.std.specs.Prelude.{ℕ, List, flat_map, map}
use Rattle.sheet_core.specs.declared.column.Column.{Column}
use Rattle.desk_store.specs.Dumps.{insert_line}
use Rattle.desk_store.specs.Exports.{row_line}
use Rattle.desk_store.specs.declared.export.RowForm.{RowForm}
use Rattle.desk_store.specs.declared.export.RowForm.TheVariants.{Record, Insert}

abbrev pub line_in : RowForm → List Column → List ℕ
line_in Record = row_line
line_in (Insert table) = insert_line table

-- the lines of rows, one after another
abbrev pub text_in : RowForm → List (List Column) → List ℕ
text_in form rows = flat_map (line_in form) rows

abbrev pub lines_in : {R : Type 0} → RowForm → (R → List Column) → List R → List ℕ
lines_in form columns rows = text_in form (map columns rows)
