-- The text of a dump: a state as SQL, which makes its tables anew in a database that has nothing. Each line is one
-- statement.
use Rattle.std.specs.Prelude.{ℕ, ◌+◌, ◌/◌, ◌%◌, ◌==◌, nat_lt, Bool, true, false, if◌then◌else◌, List, [], ◌∷◌, ◌++◌}
use Rattle.std.specs.Prelude.{flat_map, codes, decimal}
use Rattle.std.specs.List.{list_all}
use Rattle.word_core.specs.Text.{is_plain}
use Rattle.sheet_core.specs.declared.column.Column.{Column}
use Rattle.sheet_core.specs.declared.column.Column.TheVariants.{Whole, Text, Absent}
use Rattle.desk_core.specs.Machine.{State}
use Rattle.desk_store.specs.Exports.{table_rows}
use Rattle.table_store.specs.Schema.{all_names, name_of}
use Rattle.table_store.specs.Texts.{create_text}
use Rattle.table_store.specs.declared.name.TableName.{TableName}

-- ---- literals

-- within quotes a quote stands doubled, and each other byte as it is
abbrev pub quoted_byte : ℕ → List ℕ
quoted_byte b = if b == 39 then 39 ∷ 39 ∷ [] else b ∷ []

abbrev pub quoted_bytes : List ℕ → List ℕ
quoted_bytes text = flat_map quoted_byte text

-- a number below 16 as a digit: 0 to 9, A to F
abbrev pub hex_digit : ℕ → ℕ
hex_digit n = if nat_lt n 10 then 48 + n else 55 + n

abbrev pub hex_byte : ℕ → List ℕ
hex_byte b = hex_digit (b / 16) ∷ hex_digit (b % 16) ∷ []

abbrev pub hex_bytes : List ℕ → List ℕ
hex_bytes text = flat_map hex_byte text

-- A text in quotes. One that has a control character, as no text of the machine has, is told by the digits of its bytes:
-- a quoted text ends for SQL at a NUL, and the line must be one.
abbrev pub text_literal : List ℕ → List ℕ
text_literal text =
    if list_all is_plain text then 39 ∷ (quoted_bytes text ++ 39 ∷ [])
    else codes "CAST(X'" ++ (hex_bytes text ++ codes "' AS TEXT)")

abbrev pub literal_of : Column → List ℕ
literal_of (Whole n) = decimal n
literal_of (Text text) = text_literal text
literal_of Absent = codes "NULL"

-- ---- statements

-- the literals of columns, with a comma between two
abbrev pub values_text : Bool → List Column → List ℕ
values_text later [] = []
values_text later (column ∷ columns) =
    (if later then 44 ∷ [] else []) ++ (literal_of column ++ values_text true columns)

-- puts a row
abbrev pub insert_line : TableName → List Column → List ℕ
insert_line table columns =
    codes "INSERT INTO " ++ (name_of table ++ (codes " VALUES(" ++ (values_text false columns ++ codes ");\n")))

-- makes a table, by the text that makes it in the desk's file
abbrev pub create_line : TableName → List ℕ
create_line table = create_text table ++ codes ";\n"

-- makes a table and puts the rows that a state has in it, in the order of the key
abbrev pub table_lines : TableName → State → List ℕ
table_lines table s = create_line table ++ flat_map (insert_line table) (table_rows table s)

abbrev pub tables_lines : List TableName → State → List ℕ
tables_lines tables s = flat_map (λ table. table_lines table s) tables

-- all tables, in the order in which the desk's file has them, in one transaction
unfoldable pub dump_text : State → List ℕ
dump_text s = codes "BEGIN;\n" ++ (tables_lines all_names s ++ codes "COMMIT;\n")
