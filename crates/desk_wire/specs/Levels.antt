-- What a file of levels says: of each record a part, and how much of it there is to be at least; or its first fault. It is
-- read as a file of rows is that is read loosely.
use Rattle.std.specs.Prelude.{ℕ, ◌≡◌, ◌+◌, ◌++◌, ◌∷◌, List, [], length, drop, nat_le, not, codes, if◌then◌else◌}
use Rattle.std.specs.Prelude.{Option, Some, None, option_map, option_and_then, Result, Ok, Err}
use Rattle.csv.specs.Reading.{records, strip_bom}
use Rattle.word_core.specs.declared.field.RowKind.TheVariants as table
use Rattle.desk_core.specs.Naming.{Naming}
use Rattle.desk_wire.specs.declared.fault.FileError.{FileError}
use Rattle.desk_wire.specs.declared.fault.FileError.TheVariants as error
use Rattle.desk_wire.specs.declared.fault.What.{What}
use Rattle.desk_wire.specs.declared.fault.What.TheVariants.{TooLong, Csv, Header}
use Rattle.desk_wire.specs.declared.fault.WireFault.{WireFault}
use Rattle.desk_wire.specs.declared.levels.LevelColumns.{LevelColumns}
use Rattle.desk_wire.specs.declared.levels.LevelRow.{LevelRow}
use Rattle.desk_wire.specs.Faults.{shown_field}
use Rattle.desk_wire.specs.Imports.{Wrong, field, has_other_separator, separators}
use Rattle.desk_wire.specs.Quotes.{open_record}
use Rattle.desk_wire.specs.Records.{Fields, are_texts, config_by, first_layout}
use Rattle.desk_wire.specs.RowWords.{number_of, row_at_word}
use Rattle.desk_wire.specs.Sheets.{column_headed, is_closed}
use Rattle.desk_wire.specs.Steps.{◌>>=◌, must}

-- ---- the columns of a file

-- the column of a name that just one has
abbrev pub one_column : List ℕ → Fields → Option ℕ
one_column name header = option_and_then (λ column. column) (column_headed name header)

-- the columns that a file's first record names, whatever else it names
abbrev pub level_columns : Fields → Option LevelColumns
level_columns header =
    if are_texts header
    then option_and_then
    (λ part. option_map (λ level. record { part = part; level = level; width = length header })
    (one_column (codes "level") header)) (one_column (codes "part") header)
    else None

abbrev pub first_columns : List Fields → Option LevelColumns
first_columns [] = None
first_columns (r ∷ rs) = level_columns r

-- the first of these separators by which the first record names the columns, with the columns
abbrev pub layout_by : List ℕ → List ℕ → Option (ℕ × LevelColumns)
layout_by text separators = first_layout first_columns text separators

-- ---- one record

-- what is wrong with which record, and the field that can't be read, if it is one: its name, and what stands in it
abbrev pub Fault : Type 0
Fault = WireFault × Option Wrong

-- a reading of the record of that number, of which no field is at fault
abbrev pub of_record : {A : Type 0} → ℕ → Result A What → Result A Fault
of_record n (Ok x) = Ok x
of_record n (Err what) = Err (record { line = n; what = what }, None)

-- a reading of its field of that name, where the text stands
abbrev pub of_field : {A : Type 0} → ℕ → List ℕ → List ℕ → Result A What → Result A Fault
of_field n name text (Ok x) = Ok x
of_field n name text (Err what) = Err (record { line = n; what = what }, Some (name, Some text))

-- a part, as its number or its name says it, with its level
abbrev pub level_row : Naming → ℕ → List ℕ → List ℕ → Result LevelRow Fault
level_row names n part level = do
  number ← of_field n (codes "part") part (row_at_word (Some names) table.Part (codes "part") part)
  amount ← of_field n (codes "level") level (number_of level)
  Ok (record { part = number; amount = amount })

-- the level that two fields say, if there is one: nothing where the second is empty
abbrev pub maybe_level : Naming → ℕ → List ℕ → List ℕ → Result (Option LevelRow) Fault
maybe_level names n part [] = Ok None
maybe_level names n part (b ∷ bs) = do
  level ← level_row names n part (b ∷ bs)
  Ok (Some level)

-- What the record of that number says. `Csv` is one that isn't text, in which a quote is open where the file ends, or that
-- has more fields than the header. Of the others one without a level is left out, and so is an empty one.
abbrev pub level_of : Naming → LevelColumns → Option ℕ → ℕ → Fields → Result (Option LevelRow) Fault
level_of names columns unclosed n fields = do
  texts ← of_record n (must Csv (are_texts fields))
  closed ← of_record n (must Csv (is_closed unclosed n))
  fits ← of_record n (must Csv (nat_le (length fields) columns.width))
  maybe_level names n (field columns.part fields) (field columns.level fields)

-- ---- all records

-- a level, if there is one
abbrev pub level_list : Option LevelRow → List LevelRow
level_list None = []
level_list (Some level) = level ∷ []

-- these levels, and then those of the records, of which the first has the number; or the first fault
abbrev pub levels_from : (ℕ → Fields → Result (Option LevelRow) Fault) → ℕ → List LevelRow → List Fields
    → Result (List LevelRow) Fault
levels_from reads n levels [] = Ok levels
levels_from reads n levels (r ∷ rs) = do
  level ← reads n r
  levels_from reads (n + 1) (levels ++ level_list level) rs

-- the levels of the records below the header; a quote may be open in one of all
abbrev pub levels_below : Naming → LevelColumns → Option ℕ → List Fields → Result (List LevelRow) Fault
levels_below names columns unclosed rs = do
  closed ← of_record 1 (must Csv (is_closed unclosed 1))
  levels_from (level_of names columns unclosed) 2 [] rs

-- these levels of a file; where there are none, it is `Csv` if another separator stands in the records than in the header
abbrev pub unless_other : List ℕ → ℕ × LevelColumns → List LevelRow → Result (List LevelRow) Fault
unless_other text layout [] = do
  same ← of_record 2 (must Csv (not (has_other_separator text layout.0 layout.1.width)))
  Ok []
unless_other text layout (level ∷ levels) = Ok (level ∷ levels)

abbrev pub levels_by : Naming → List ℕ → Option (ℕ × LevelColumns) → Result (List LevelRow) Fault
levels_by names text None = of_record 1 (Err Header)
levels_by names text (Some layout) = do
  levels ← levels_below names layout.1 (open_record (config_by layout.0) text) (drop 1 (records (config_by layout.0) text))
  unless_other text layout levels

-- the levels of a file, in its order, or its first fault
abbrev pub file_levels : Naming → List ℕ → Result (List LevelRow) Fault
file_levels names bytes = do
  fits ← of_record 0 (must TooLong (nat_le (length bytes) 16777216))
  levels_by names (strip_bom bytes) (layout_by (strip_bom bytes) separators)

-- ---- what the code answers

-- the reading failed so, unless memory ran out
abbrev pub FailsAs : {X : Type 0} → Result X Fault → FileError → Type 0
FailsAs reading error.Memory = Unit {0}
FailsAs reading (error.Wrong what field) = reading ≡ Err (what, option_map shown_field field)

-- what was answered is this reading, unless memory ran out
abbrev pub ReadsAs : {X : Type 0} → Result X Fault → Result X FileError → Type 0
ReadsAs reading (Ok x) = reading ≡ Ok x
ReadsAs reading (Err e) = FailsAs reading e

-- the next record, of that number, was read: as a level or as one that is left out, or as one that is wrong, or there was
-- none
abbrev pub ReadsNext : (ℕ → Fields → Result (Option LevelRow) Fault) → ℕ → List Fields → List Fields
    → Result (Option (Option LevelRow)) FileError → Type 0
ReadsNext reads n old new (Ok None) = old ≡ []
ReadsNext reads n old new (Ok (Some level)) = (fields : Fields) × (old ≡ fields ∷ new) × (reads n fields ≡ Ok level)
ReadsNext reads n old new (Err error.Memory) = Unit {0}
ReadsNext reads n old new (Err (error.Wrong what field)) =
    (fields : Fields) × (rest : List Fields) × (old ≡ fields ∷ rest)
    × (reads n fields ≡ Err (what, option_map shown_field field))
