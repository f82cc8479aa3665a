-- The books, and entries of the history, as JSON in one line. A row is the array of the fields that an export has of it, each
-- a string.
use Rattle.std.specs.Prelude.{ℕ, nat_le, Bool, true, false, List, [], ◌∷◌, ◌++◌, map, filter, take, Option, codes}
use Rattle.std.specs.FinMap.{values}
use Rattle.serde_json.specs.Data.{Data, array, object, Members, no_members, member}
use Rattle.serde_json.specs.View.{items_of}
use Rattle.serde_json.specs.Written.{compact_text}
use Rattle.sheet_core.specs.declared.column.Column.{Column}
use Rattle.forest.specs.EntryColumns.{entry_columns}
use Rattle.forest.specs.declared.entry.Entry.{Entry}
use Rattle.desk_core.specs.DataOf.{maybe_whole, strings}
use Rattle.desk_core.specs.Machine.{State}
use Rattle.desk_store.specs.Exports.{field_of, table_rows}
use Rattle.table_store.specs.Schema.{all_names, name_of}
use Rattle.table_store.specs.declared.name.TableName.{TableName}
use Rattle.table_store.specs.declared.name.TableName.TheVariants.{History, Kept}

-- ---- a table

abbrev pub row_data : List Column → Data
row_data columns = strings (map field_of columns)

abbrev pub rows_data : List (List Column) → Data
rows_data rows = array (items_of (map row_data rows))

-- a text with its LF
abbrev pub line_of_data : Data → List ℕ
line_of_data d = compact_text d ++ 10 ∷ []

-- ---- the books

-- all tables but the history, which is told by itself, and the answers that are kept
abbrev pub is_in_books : TableName → Bool
is_in_books History = false
is_in_books Kept = false
is_in_books table = true

abbrev pub book_names : List TableName
book_names = filter is_in_books all_names

-- a member for each table, under its name
abbrev pub table_members : State → List TableName → Members
table_members s [] = no_members
table_members s (table ∷ tables) =
    member (name_of table) (rows_data (table_rows table s)) (table_members s tables)

-- how many requests were accepted, null where that is not known, and tables
abbrev pub books_data : Option ℕ → State → List TableName → Data
books_data accepted s tables = object (member (codes "accepted") (maybe_whole accepted) (table_members s tables))

unfoldable pub books_text : Option ℕ → State → List ℕ
books_text accepted s = line_of_data (books_data accepted s book_names)

-- ---- the history

-- the entries from a number on, a thousand at most
abbrev pub entries_from : ℕ → State → List Entry
entries_from from s = take 1000 (filter (λ e. nat_le from e.number) (values s.stock.history))

abbrev pub entries_data : List Entry → Data
entries_data entries = object (member (codes "history") (rows_data (map entry_columns entries)) no_members)

unfoldable pub history_text : ℕ → State → List ℕ
history_text from s = line_of_data (entries_data (entries_from from s))
