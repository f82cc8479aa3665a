-- What a file of comma-separated values asks, or its first fault.
use Rattle.std.specs.Prelude.{ℕ, ◌≡◌, ◌⊎◌, ◌+◌, ◌==◌, ◌&&◌, ◌||◌, ◌++◌, ◌∷◌, List, [], length, map, drop, nat_le, not}
use Rattle.std.specs.Prelude.{codes, decimal, Bool, true, false, if◌then◌else◌, Option, Some, None, option_map, option_and_then}
use Rattle.std.specs.Prelude.{◌-◌, is_some, unwrap_or, Result, Ok, Err}
use Rattle.std.specs.FinMap as finmap
use Rattle.std.specs.List.{list_any}
use Rattle.std.specs.Str.{bytes_eq}
use Rattle.std.specs.Cmp.Lexicographic.{pointwise}
use Rattle.csv.specs.Reading.{default_config, records, strip_bom}
use Rattle.csv.specs.Records.{field_at}
use Rattle.word_core.specs.Day.{CivilDay}
use Rattle.word_core.specs.Serials.{serials_in}
use Rattle.word_core.specs.declared.field.RowKind.TheVariants as table
use Rattle.stock_core.specs.declared.stock_command.StockCommand.TheVariants.{Count}
use Rattle.order_core.specs.declared.order_command.OrderCommand.TheVariants.{Receive}
use Rattle.desk_core.specs.Naming.{Naming}
use Rattle.desk_core.specs.Machine.{State}
use Rattle.desk_core.specs.declared.command.Command.{Command}
use Rattle.desk_core.specs.declared.command.Request.{Request}
use Rattle.desk_core.specs.declared.command.Command.TheVariants.{Order, Stock}
use Rattle.desk_wire.specs.declared.fault.What.{What}
use Rattle.desk_wire.specs.declared.fault.What.TheVariants.{TooLong, Csv, Header, WrongType, Changed}
use Rattle.desk_wire.specs.declared.fault.WireFault.{WireFault}
use Rattle.desk_wire.specs.declared.kind.ImportKind.{ImportKind}
use Rattle.desk_wire.specs.declared.kind.ImportKind.TheVariants.{Receipts, Counts}
use Rattle.desk_wire.specs.declared.kind.FileReading.{FileReading}
use Rattle.desk_wire.specs.declared.kind.FileReading.TheVariants.{Strict, Loose, Unchanged}
use Rattle.desk_wire.specs.declared.row.ImportRow.{ImportRow}
use Rattle.desk_wire.specs.declared.fault.FileError.{FileError}
use Rattle.desk_wire.specs.declared.fault.FileError.TheVariants as error
use Rattle.desk_wire.specs.Faults.{shown_field}
use Rattle.desk_wire.specs.Steps.{◌>>=◌, or_fault, must, at, at_fault}
use Rattle.desk_wire.specs.Texts.{row_text_from, listed}
use Rattle.desk_wire.specs.Numbers.{number_in, row_number_in}
use Rattle.desk_wire.specs.RowWords.{number_of, row_at_word}
use Rattle.desk_wire.specs.Kinds.{import_kind_name}
use Rattle.desk_wire.specs.Quotes.{but_last, closed_of, ends_in_quotes}
use Rattle.desk_wire.specs.Records.{Fields, are_texts, config_by, first_layout}

-- ---- one record

abbrev pub names_of : ImportKind → Fields
names_of Receipts =
    codes "number" ∷ codes "line" ∷ codes "location" ∷ codes "quantity" ∷ codes "batch" ∷ codes "serials" ∷ []
names_of Counts = codes "number" ∷ codes "item" ∷ codes "quantity" ∷ []

abbrev pub field : ℕ → Fields → List ℕ
field i fields = unwrap_or (field_at fields i) []

-- a reading of a field, of which an empty one is none
abbrev pub unless_empty : {A : Type 0} → (List ℕ → Result A What) → List ℕ → Result (Option A) What
unless_empty reading [] = Ok None
unless_empty reading (b ∷ bs) = do
  x ← reading (b ∷ bs)
  Ok (Some x)

abbrev pub batch_of : List ℕ → Result (Option (List ℕ)) What
batch_of text = unless_empty row_text_from text

abbrev pub serials_of : List ℕ → Result (Option (List (List ℕ))) What
serials_of text = unless_empty (λ text. listed (serials_in text)) text

-- rows are said by words
abbrev pub command_of : Option Naming → ImportKind → Fields → Result Command What
command_of names Receipts fields = do
  line ← row_at_word names table.OrderLine (codes "line") (field 1 fields)
  location ← row_at_word names table.Location (codes "location") (field 2 fields)
  quantity ← number_of (field 3 fields)
  batch ← batch_of (field 4 fields)
  serials ← serials_of (field 5 fields)
  Ok (Order (Receive line location (record { quantity = quantity; batch = batch; serials = serials })))
command_of names Counts fields = do
  item ← row_at_word names table.Item (codes "item") (field 1 fields)
  quantity ← number_of (field 2 fields)
  Ok (Stock (Count item quantity))

-- the key of the row of that number
abbrev pub key_of : ImportKind → List ℕ → ℕ → List ℕ
key_of kind document number = import_kind_name kind ++ codes "/" ++ document ++ codes "/" ++ decimal number

-- the row that a record is, or its first fault
unfoldable pub row_of : Option Naming → ImportKind → List ℕ → CivilDay → Fields → Result ImportRow What
row_of names kind document day fields = do
  whole ← must Csv (length fields == length (names_of kind))
  texts ← must Csv (are_texts fields)
  number ← or_fault WrongType (row_number_in (field 0 fields))
  command ← command_of names kind fields
  Ok (record {
    number = number;
    request = record { key = Some (key_of kind document number); day = day; command = command };
  })

-- ---- the columns of a file: what stands between two fields, and where each of the row's fields stands

-- what may stand between two fields of a file that is read loosely: a comma, a semicolon or a tab
abbrev pub separators : List ℕ
separators = 44 ∷ 59 ∷ 9 ∷ []

-- where each of the row's fields stands, of which one that has no column is empty; how many fields a record has at most;
-- where a sheet says what the books had, if it does; and the books that are still to have it, where they are asked
pub record Columns : Type 0 where
  pub places : List (Option ℕ)
  pub width : ℕ
  pub expected : Option ℕ
  pub books : Option State

-- at which places the name stands, from that place on
abbrev pub places_from : ℕ → List ℕ → Fields → List ℕ
places_from i name [] = []
places_from i name (f ∷ fs) =
    if bytes_eq name f then i ∷ places_from (i + 1) name fs else places_from (i + 1) name fs

-- a batch and serials may have no column
abbrev pub may_lack : List ℕ → Bool
may_lack name = bytes_eq name (codes "batch") || bytes_eq name (codes "serials")

-- the column of a name, if it has just one, or, where it may, none
abbrev pub column_by : List ℕ → List ℕ → Option (Option ℕ)
column_by name [] = if may_lack name then Some None else None
column_by name (i ∷ []) = Some (Some i)
column_by name (i ∷ j ∷ js) = None

-- the column of each name in a header
abbrev pub places_of : List (List ℕ) → Fields → Option (List (Option ℕ))
places_of [] header = Some []
places_of (name ∷ names) header =
    option_and_then (λ place. option_map (λ places. place ∷ places) (places_of names header))
    (column_by name (places_from 0 name header))

-- what a sheet calls what the books had: of a line how many were still to come, of an item how many there were
abbrev pub expected_name : ImportKind → List ℕ
expected_name Receipts = codes "outstanding"
expected_name Counts = codes "expected"

-- the first of places, if there is one
abbrev pub first_place : List ℕ → Option ℕ
first_place [] = None
first_place (i ∷ is) = Some i

-- columns at these places, of a header
abbrev pub columns_at : ImportKind → Fields → List (Option ℕ) → Columns
columns_at kind header places =
    record {
      places = places;
      width = length header;
      expected = first_place (places_from 0 (expected_name kind) header);
      books = None;
    }

-- the columns that a file's first record names, whatever else it names
abbrev pub columns_of : ImportKind → Fields → Option Columns
columns_of kind header =
    if are_texts header then option_map (columns_at kind header) (places_of (names_of kind) header) else None

abbrev pub field_at_place : Option ℕ → Fields → List ℕ
field_at_place None fields = []
field_at_place (Some i) fields = field i fields

-- the row's fields, in their order, out of a record; one that the record ends before is empty
abbrev pub arranged : Columns → Fields → Fields
arranged columns fields = map (λ place. field_at_place place fields) columns.places

-- which of the row's fields is the quantity
abbrev pub quantity_at : ImportKind → ℕ
quantity_at Receipts = 3
quantity_at Counts = 2

-- ---- how a record is read

-- the row that a record is, or none where it is left out; or its first fault
abbrev pub Reads : Type 0
Reads = Fields → Result (Option ImportRow) What

-- each record is a row
abbrev pub strictly : Option Naming → ImportKind → List ℕ → CivilDay → Reads
strictly names kind document day fields = do
  row ← row_of names kind document day fields
  Ok (Some row)

-- what the books have now of what a row is of: how much there is of an item that is counted, how much is still to come of
-- the line of a receipt
abbrev pub booked : State → Command → Option ℕ
booked s (Stock (Count item quantity)) = option_map (λ x. x.quantity) (finmap.get s.stock.items (item ∷ []))
booked s (Order (Receive line location what)) = option_map (λ l. l.quantity - l.done) (finmap.get s.order_lines (line ∷ []))
booked s _ = None

abbrev pub was_done : State → Option (List ℕ) → Bool
was_done s None = false
was_done s (Some key) = is_some (finmap.get s.answers key)

-- of a row that was done before nothing is asked
abbrev pub still_booked : State → Request → Option ℕ
still_booked s request = if was_done s request.key then None else booked s request.command

abbrev pub is_number : Option ℕ → ℕ → Bool
is_number None n = false
is_number (Some m) n = m == n

-- a text says that number, where there is one, or nothing
abbrev pub says : List ℕ → Option ℕ → Bool
says [] n = true
says (b ∷ bs) None = true
says (b ∷ bs) (Some n) = is_number (number_in (b ∷ bs)) n

-- what the sheet says the books had of a row is what they have, where they are asked
abbrev pub is_unchanged : Columns → Fields → ImportRow → Bool
is_unchanged columns fields row = by_books columns.books
  where
    by_books : Option State → Bool
    by_books None = true
    by_books (Some s) = says (field_at_place columns.expected fields) (still_booked s row.request)

-- a row of which the books have another number than the sheet says they had is `Changed`
abbrev pub unless_changed : Columns → Fields → Result (Option ImportRow) What → Result (Option ImportRow) What
unless_changed columns fields (Err what) = Err what
unless_changed columns fields (Ok None) = Ok None
unless_changed columns fields (Ok (Some row)) =
    if is_unchanged columns fields row then Ok (Some row) else Err Changed

-- `Csv` is a record of more fields than the header. Of the others one without a quantity is left out, and so is an empty
-- one. Any other is a row by its columns, unless the books have changed.
unfoldable pub loosely : Option Naming → ImportKind → List ℕ → CivilDay → Columns → Reads
loosely names kind document day columns fields = do
  texts ← must Csv (are_texts fields)
  fits ← must Csv (nat_le (length fields) columns.width)
  by_quantity (field (quantity_at kind) (arranged columns fields))
  where
    by_quantity : List ℕ → Result (Option ImportRow) What
    by_quantity [] = Ok None
    by_quantity (b ∷ bs) = unless_changed columns fields (strictly names kind document day (arranged columns fields))

-- ---- all records

-- a row, if there is one
abbrev pub row_list : Option ImportRow → List ImportRow
row_list None = []
row_list (Some row) = row ∷ []

-- these rows, and then those that the records are, of which the first has the number; or the first fault
abbrev pub with_rows : Reads → ℕ → List ImportRow → List Fields → Result (List ImportRow) WireFault
with_rows reads number rows [] = Ok rows
with_rows reads number rows (r ∷ rs) = do
  row ← at number (reads r)
  with_rows reads (number + 1) (rows ++ row_list row) rs

-- the rows under the header
abbrev pub rows_in : Option Naming → ImportKind → List ℕ → CivilDay → List Fields → Result (List ImportRow) WireFault
rows_in names kind document day [] = at 1 (Err Header)
rows_in names kind document day (r ∷ rs) = do
  header ← at 1 (must Header (pointwise bytes_eq (names_of kind) r))
  with_rows (strictly names kind document day) 2 [] rs

-- ---- loosely

-- the columns that the first of these records names
abbrev pub first_columns : ImportKind → List Fields → Option Columns
first_columns kind [] = None
first_columns kind (r ∷ rs) = columns_of kind r

-- the first of these separators by which the first record names the columns, with the columns
abbrev pub layout_by : ImportKind → List ℕ → List ℕ → Option (ℕ × Columns)
layout_by kind text separators = first_layout (first_columns kind) text separators

-- the records under the header
abbrev pub records_under : ℕ → List ℕ → List Fields
records_under separator text = drop 1 (records (config_by separator) text)

-- The rows that the records under the header are. Where a quote is open at the end of the text, the last record of all is
-- `Csv`, after the others.
abbrev pub rows_under : Bool → Reads → List Fields → Result (List ImportRow) WireFault
rows_under false reads rs = with_rows reads 2 [] rs
rows_under true reads rs = do
  rows ← with_rows reads 2 [] (but_last rs)
  at (length rs + 1) (Err Csv)

-- how many fields the first record under the header has, if there is one, where both are texts
abbrev pub first_width : List Fields → Option ℕ
first_width [] = None
first_width (header ∷ []) = None
first_width (header ∷ r ∷ rs) = if are_texts header && are_texts r then Some (length r) else None

abbrev pub is_width : Option ℕ → ℕ → Bool
is_width None width = false
is_width (Some n) width = n == width

abbrev pub is_other_width : Option ℕ → ℕ → Bool
is_other_width None width = false
is_other_width (Some n) width = not (n == width)

-- Another separator stands in the records than in the header: by the header's the first record under it hasn't as many
-- fields as the header, and by another it has.
abbrev pub has_other_separator : List ℕ → ℕ → ℕ → Bool
has_other_separator text separator width =
    is_other_width (first_width (records (config_by separator) text)) width
    && list_any (λ other. is_width (first_width (records (config_by other) text)) width) separators

-- these rows of a file; where there are none, it is `Csv` if another separator stands in the records than in the header
abbrev pub unless_other : List ℕ → ℕ × Columns → List ImportRow → Result (List ImportRow) WireFault
unless_other text layout [] = do
  same ← at 2 (must Csv (not (has_other_separator text layout.0 layout.1.width)))
  Ok []
unless_other text layout (row ∷ rows) = Ok (row ∷ rows)

-- the rows under the header, by the columns that it names
abbrev pub rows_by : Option Naming → ImportKind → List ℕ → CivilDay → List ℕ → Option (ℕ × Columns)
    → Result (List ImportRow) WireFault
rows_by names kind document day text None = at 1 (Err Header)
rows_by names kind document day text (Some layout) = do
  rows ← rows_under (ends_in_quotes (config_by layout.0) text) (loosely names kind document day layout.1)
      (records_under layout.0 text)
  unless_other text layout rows

-- the rows of a text, strictly or loosely
abbrev pub rows_of_text : Bool → Option Naming → ImportKind → List ℕ → CivilDay → List ℕ
    → Result (List ImportRow) WireFault
rows_of_text false names kind document day text = rows_in names kind document day (records default_config text)
rows_of_text true names kind document day text = rows_by names kind document day text (layout_by kind text separators)

-- the rows of a file, by one naming for all
abbrev pub import : Bool → Option Naming → ImportKind → List ℕ → CivilDay → List ℕ → Result (List ImportRow) WireFault
import loose names kind document day bytes = do
  fits ← at 0 (must TooLong (nat_le (length bytes) 16777216))
  rows_of_text loose names kind document day (strip_bom bytes)

-- ---- unless the books have changed

-- the columns, with the books that are asked, if any are
abbrev pub asked_by : Option State → Columns → Columns
asked_by None columns = columns
asked_by (Some s) columns = record columns { books = Some s }

abbrev pub asking : Option State → Option (ℕ × Columns) → Option (ℕ × Columns)
asking None layout = layout
asking (Some s) layout = option_map (λ l. (l.0, asked_by (Some s) l.1)) layout

-- the rows of a file that is read loosely, of which these books have what the sheet says; else `Changed` at the first that
-- they have otherwise, where no record before it has another fault
abbrev pub import_unchanged : State → Option Naming → ImportKind → List ℕ → CivilDay → List ℕ
    → Result (List ImportRow) WireFault
import_unchanged s names kind document day bytes = do
  fits ← at 0 (must TooLong (nat_le (length bytes) 16777216))
  rows_by names kind document day (strip_bom bytes)
      (asking (Some s) (layout_by kind (strip_bom bytes) separators))

-- ---- what is wrong with a record

-- the name of a field, and what stands in it
abbrev pub Wrong : Type 0
Wrong = List ℕ × Option (List ℕ)

-- the name of the first field of a row that can't be read, and what stands in it
abbrev pub wrong_in_row : Option Naming → ImportKind → Fields → Option Wrong
wrong_in_row names Receipts row =
    at_fault (codes "number") (Some (field 0 row)) (or_fault WrongType (row_number_in (field 0 row)))
    (at_fault (codes "line") (Some (field 1 row)) (row_at_word names table.OrderLine (codes "line") (field 1 row))
    (at_fault (codes "location") (Some (field 2 row)) (row_at_word names table.Location (codes "location") (field 2 row))
    (at_fault (codes "quantity") (Some (field 3 row)) (number_of (field 3 row))
    (at_fault (codes "batch") (Some (field 4 row)) (batch_of (field 4 row))
    (at_fault (codes "serials") (Some (field 5 row)) (serials_of (field 5 row)) None)))))
wrong_in_row names Counts row =
    at_fault (codes "number") (Some (field 0 row)) (or_fault WrongType (row_number_in (field 0 row)))
    (at_fault (codes "item") (Some (field 1 row)) (row_at_word names table.Item (codes "item") (field 1 row))
    (at_fault (codes "quantity") (Some (field 2 row)) (number_of (field 2 row)) None))

-- the first of these records that can't be read
abbrev pub first_wrong : Reads → List Fields → Option Fields
first_wrong reads [] = None
first_wrong reads (r ∷ rs) = by_reading (reads r) (first_wrong reads rs)
  where
    by_reading : Result (Option ImportRow) What → Option Fields → Option Fields
    by_reading (Ok row) others = others
    by_reading (Err what) others = Some r

-- what is wrong in the first of these records that can't be read, where each is as long as the header says
abbrev pub wrong_strictly : Option Naming → ImportKind → Option Fields → Option Wrong
wrong_strictly names kind None = None
wrong_strictly names kind (Some r) =
    if are_texts r && (length r == length (names_of kind)) then wrong_in_row names kind r else None

-- the same by columns
abbrev pub wrong_loosely : Option Naming → ImportKind → Columns → Option Fields → Option Wrong
wrong_loosely names kind columns None = None
wrong_loosely names kind columns (Some r) =
    if are_texts r && nat_le (length r) columns.width then wrong_in_row names kind (arranged columns r) else None

abbrev pub wrong_by : Option Naming → ImportKind → List ℕ → CivilDay → List ℕ → Option (ℕ × Columns)
    → Option Wrong
wrong_by names kind document day text None = None
wrong_by names kind document day text (Some layout) =
    wrong_loosely names kind layout.1
    (first_wrong (loosely names kind document day layout.1)
    (closed_of (ends_in_quotes (config_by layout.0) text) (records_under layout.0 text)))

-- under the header, where it is one
abbrev pub wrong_under : Option Naming → ImportKind → List ℕ → CivilDay → List Fields → Option Wrong
wrong_under names kind document day [] = None
wrong_under names kind document day (r ∷ rs) =
    if pointwise bytes_eq (names_of kind) r
    then wrong_strictly names kind (first_wrong (strictly names kind document day) rs)
    else None

abbrev pub wrong_in_text : Bool → Option Naming → ImportKind → List ℕ → CivilDay → List ℕ → Option Wrong
wrong_in_text false names kind document day text = wrong_under names kind document day (records default_config text)
wrong_in_text true names kind document day text =
    wrong_by names kind document day text (layout_by kind text separators)

-- what is wrong in the first record of a file that can't be read, if it is one of its fields
abbrev pub wrong_in_file : Bool → Option Naming → ImportKind → List ℕ → CivilDay → List ℕ → Option Wrong
wrong_in_file loose names kind document day bytes =
    if nat_le (length bytes) 16777216 then wrong_in_text loose names kind document day (strip_bom bytes) else None

-- the same of a file that is read unless the books have changed
abbrev pub wrong_in_unchanged : State → Option Naming → ImportKind → List ℕ → CivilDay → List ℕ → Option Wrong
wrong_in_unchanged s names kind document day bytes =
    if nat_le (length bytes) 16777216
    then wrong_by names kind document day (strip_bom bytes)
    (asking (Some s) (layout_by kind (strip_bom bytes) separators))
    else None

-- ---- as it is asked for

abbrev pub import_by : FileReading → State → Option Naming → ImportKind → List ℕ → CivilDay → List ℕ
    → Result (List ImportRow) WireFault
import_by Strict s names kind document day bytes = import false names kind document day bytes
import_by Loose s names kind document day bytes = import true names kind document day bytes
import_by Unchanged s names kind document day bytes = import_unchanged s names kind document day bytes

abbrev pub wrong_in_file_by : FileReading → State → Option Naming → ImportKind → List ℕ → CivilDay → List ℕ
    → Option Wrong
wrong_in_file_by Strict s names kind document day bytes = wrong_in_file false names kind document day bytes
wrong_in_file_by Loose s names kind document day bytes = wrong_in_file true names kind document day bytes
wrong_in_file_by Unchanged s names kind document day bytes = wrong_in_unchanged s names kind document day bytes

-- an error tells the fault of a reading, and the field that is wrong there, unless memory ran out
abbrev pub Tells : {X : Type 0} → Result X WireFault → Option Wrong → FileError → Type 0
Tells reading wrong error.Memory = Unit {0}
Tells reading wrong (error.Wrong fault field) = (reading ≡ Err fault) × (option_map shown_field field ≡ wrong)

-- what was answered is the rows of the file, or its first fault, with what is wrong there
abbrev pub Imports : Bool → Option Naming → ImportKind → List ℕ → CivilDay → List ℕ
    → Result (List ImportRow) FileError → Type 0
Imports loose names kind document day bytes (Ok rows) = import loose names kind document day bytes ≡ Ok rows
Imports loose names kind document day bytes (Err e) =
    Tells (import loose names kind document day bytes) (wrong_in_file loose names kind document day bytes) e

-- a file that is read strictly is read so loosely, unless a quote is open at its end
abbrev pub LooseReadsStrict : Type 0
LooseReadsStrict =
    (names : Option Naming) (kind : ImportKind) (document : List ℕ) (day : CivilDay) (bytes : List ℕ)
    (rows : List ImportRow) → import false names kind document day bytes ≡ Ok rows
    → ends_in_quotes default_config (strip_bom bytes) ≡ false → import true names kind document day bytes ≡ Ok rows

-- ---- what names change

-- where the one reading is of a wrong type in some record the other may read on, and else they are alike
abbrev pub AreAlikeFiles : {A : Type 0} → Result A WireFault → Result A WireFault → Type 0
AreAlikeFiles off on =
    ((number : ℕ) × (off ≡ Err (record { line = number; what = WrongType }))) ⊎ (on ≡ off)

-- a file is read with names as it is without, but for what has a value of a wrong type
abbrev pub NamesChangeFilesLittle : Type 0
NamesChangeFilesLittle =
    (loose : Bool) (names : Naming) (kind : ImportKind) (document : List ℕ) (day : CivilDay) (bytes : List ℕ)
    → AreAlikeFiles (import loose None kind document day bytes) (import loose (Some names) kind document day bytes)
