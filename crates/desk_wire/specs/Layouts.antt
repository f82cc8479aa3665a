-- What the code reads of a file at a time.
use Rattle.std.specs.Prelude.{ℕ, ◌≡◌, ◌≤◌, ◌+◌, ◌&&◌, ◌∷◌, List, [], length, Bool, true, false, not, Option, Some, None, Result, Ok, Err}
use Rattle.std.specs.Prelude.{option_map}
use Rattle.csv.specs.declared.parser.State.{State}
use Rattle.csv.specs.declared.parser.State.TheVariants as st
use Rattle.word_core.specs.Day.{CivilDay}
use Rattle.desk_core.specs.Naming.{Naming}
use Rattle.desk_core.specs.ShopView.{state_of}
use Rattle.desk_wire.specs.declared.columns.HeaderColumns.{HeaderColumns}
use Rattle.desk_wire.specs.declared.fault.FileError.{FileError}
use Rattle.desk_wire.specs.declared.fault.FileError.TheVariants.{Memory, Wrong}
use Rattle.desk_wire.specs.declared.fault.What.{What}
use Rattle.desk_wire.specs.declared.kind.ImportKind.{ImportKind}
use Rattle.desk_wire.specs.declared.layout.Layout.{Layout}
use Rattle.desk_wire.specs.declared.layout.Layout.TheVariants.{Strict, Loose}
use Rattle.desk_wire.specs.declared.quotes.Place.{Place}
use Rattle.desk_wire.specs.declared.quotes.Place.TheVariants as place
use Rattle.desk_wire.specs.declared.row.ImportRow.{ImportRow}
use Rattle.desk_wire.specs.declared.row_faults.WrongPlace.{WrongPlace}
use Rattle.desk_wire.specs.Faults.{shown_field}
use Rattle.desk_wire.specs.Imports as imports
use Rattle.desk_wire.specs.Imports.{Columns, Reads, Tells, field, loosely, strictly, wrong_loosely, wrong_strictly}
use Rattle.desk_wire.specs.Records.{BytesReader, Fields, IsReading, are_texts, left}
use Rattle.desk_wire.specs.Steps.{at}

-- the place at which a reader of a file stands, in each state that it comes to
abbrev pub place_of : State → Option Place
place_of st.StartRecord = Some place.Between
place_of st.StartField = Some place.Start
place_of st.InField = Some place.Plain
place_of st.InQuoted = Some place.Quoted
place_of st.AfterQuote = Some place.Closing
place_of st.InEscape = None
place_of st.InComment = None
place_of st.AfterCr = Some place.Between

-- between two records
abbrev pub is_between : Place → Bool
is_between place.Between = true
is_between place.Start = false
is_between place.Plain = false
is_between place.Quoted = false
is_between place.Closing = false

-- a byte that leads from the one place to the other ends a record
abbrev pub ends_record : Place → Place → Bool
ends_record old new = not (is_between old) && is_between new

-- these records begin with one that is text
abbrev pub begin_text : List Fields → Bool
begin_text [] = false
begin_text (r ∷ rs) = are_texts r

-- the next record was read, if there is one, and it is text
abbrev pub ReadsText : BytesReader → BytesReader → Fields → Bool → Type 0
ReadsText old new fields true = IsReading new × (left old ≡ fields ∷ left new) × (are_texts fields ≡ true)
ReadsText old new fields false = begin_text (left old) ≡ false

-- the last of these records, of which the first has the number, has that one, if a quote is open there
abbrev pub IsLast : Option ℕ → ℕ → List Fields → Type 0
IsLast None number rs = Unit {0}
IsLast (Some last) number rs = (number ≤ last) × (last + 1 ≡ number + length rs)

-- a quote is open in the record of that number, or in none
abbrev pub EndsAt : Option ℕ → ℕ → Type 0
EndsAt None number = Unit {0}
EndsAt (Some last) number = last ≡ number

-- the columns, as the code keeps them
abbrev pub columns_in : HeaderColumns → Columns
columns_in columns =
    record {
      places = columns.places.items;
      width = columns.width;
      expected = columns.expected;
      books = option_map (λ shop. state_of shop.now) columns.books;
    }

-- a separator and the columns that the header has by it
abbrev pub layout_in : ℕ × HeaderColumns → ℕ × Columns
layout_in layout = (layout.0, columns_in layout.1)

-- the places of a name, of which there is one or none so far
abbrev pub place_list : Option ℕ → List ℕ
place_list None = []
place_list (Some i) = i ∷ []

-- how a record is read by a layout
abbrev pub reads_by : Option Naming → ImportKind → List ℕ → CivilDay → Layout → Reads
reads_by names kind document day Strict = strictly names kind document day
reads_by names kind document day (Loose columns) = loosely names kind document day (columns_in columns)

-- what is wrong in a record that can't be read by a layout
abbrev pub wrong_in : Option Naming → ImportKind → Layout → Option Fields → Option imports.Wrong
wrong_in names kind Strict = wrong_strictly names kind
wrong_in names kind (Loose columns) = wrong_loosely names kind (columns_in columns)

-- the field at that place of a row, by its name, with what stands there
abbrev pub placed : Fields → WrongPlace → imports.Wrong
placed row place = (place.name.now, Some (field place.index row))

-- the record of that number was read as this
abbrev pub IsReadAs : Result (Option ImportRow) What → Option imports.Wrong → ℕ → Result (Option ImportRow) FileError → Type 0
IsReadAs reading wrong number (Ok row) = reading ≡ Ok row
IsReadAs reading wrong number (Err e) = Tells (at number reading) wrong e

-- the next record, of that number, was read: as a row or as one that is left out, or as one that is wrong, or there was
-- none
abbrev pub ReadsRow : Reads → (Option Fields → Option imports.Wrong) → ℕ → List Fields → List Fields
    → Result (Option (Option ImportRow)) FileError → Type 0
ReadsRow reads wrong number old new (Ok None) = old ≡ []
ReadsRow reads wrong number old new (Ok (Some row)) = (fields : Fields) × (old ≡ fields ∷ new) × (reads fields ≡ Ok row)
ReadsRow reads wrong number old new (Err Memory) = Unit {0}
ReadsRow reads wrong number old new (Err (Wrong fault field)) =
    (fields : Fields) × (rest : List Fields) × (old ≡ fields ∷ rest) × (at number (reads fields) ≡ Err fault)
    × (option_map shown_field field ≡ wrong (Some fields))
