-- A file of comma-separated values of any command, as a text of lines, or its first fault. Record n of the file is line n
-- of the text.
use Rattle.std.specs.Prelude.{ℕ, ◌+◌, ◌++◌, ◌∷◌, ◌&&◌, ◌||◌, ◌==◌, List, [], length, map, drop, nat_le, codes}
use Rattle.std.specs.Prelude.{decimal, Bool, true, false, not, if◌then◌else◌, Option, Some, None, option_map}
use Rattle.std.specs.Prelude.{option_and_then, Result, Ok, Err}
use Rattle.std.specs.List.{list_all}
use Rattle.std.specs.Str.{bytes_eq}
use Rattle.csv.specs.Reading.{records, strip_bom}
use Rattle.serde_json.specs.Data.{Data, boolean, string, number, unsigned, array, object, Members, no_members, put}
use Rattle.serde_json.specs.View.{items_of}
use Rattle.serde_json.specs.Written.{compact_text, has_float}
use Rattle.word_core.specs.Day.{CivilDay, day_text}
use Rattle.word_core.specs.Forms.{Blanks, Form}
use Rattle.word_core.specs.declared.field.FieldKind.{FieldKind}
use Rattle.word_core.specs.declared.field.FieldKind.TheVariants as kind
use Rattle.desk_wire.specs.declared.fault.What.{What}
use Rattle.desk_wire.specs.declared.fault.What.TheVariants.{TooLong, Csv, Header}
use Rattle.desk_wire.specs.declared.fault.WireFault.{WireFault}
use Rattle.desk_wire.specs.Steps.{◌>>=◌, must, at}
use Rattle.desk_wire.specs.Numbers.{number_in}
use Rattle.desk_wire.specs.RowWords.{is_json, json_of}
use Rattle.desk_wire.specs.Imports.{field, places_from, separators}
use Rattle.desk_wire.specs.Quotes.{open_record}
use Rattle.desk_wire.specs.Records.{Fields, are_texts, config_by, first_layout}

-- ---- what is said of a member

-- that its column has another name, or which text it has in each record
pub data Said : Type 0 where
  headed : List ℕ → Said
  always : List ℕ → Said

-- what is said of members, beside their names
abbrev pub Sayings : Type 0
Sayings = List (List ℕ × Said)

abbrev pub said_of : Sayings → List ℕ → Option Said
said_of [] name = None
said_of (s ∷ ss) name = if bytes_eq s.0 name then Some s.1 else said_of ss name

-- ---- where a member stands in a record

-- in the column of that number, or nowhere; or it is a text that was said
pub data Place : Type 0 where
  in_column : ℕ → Place
  as_said : List ℕ → Place
  nowhere : Place

-- the column of a name, if there is one; none at all where two columns have the name
abbrev pub one_of : List ℕ → Option (Option ℕ)
one_of [] = Some None
one_of (i ∷ []) = Some (Some i)
one_of (i ∷ j ∷ js) = None

abbrev pub column_headed : List ℕ → Fields → Option (Option ℕ)
column_headed name header = one_of (places_from 0 name header)

abbrev pub place_at : Bool → Option ℕ → Option Place
place_at may_lack None = if may_lack then Some nowhere else None
place_at may_lack (Some i) = Some (in_column i)

-- where the member of that name stands, by the header and by what is said of it, if it is as it has to be
abbrev pub place_of : Option Said → Bool → List ℕ → Fields → Option Place
place_of None may_lack name header = option_and_then (place_at may_lack) (column_headed name header)
place_of (Some (headed other)) may_lack name header = option_and_then (place_at false) (column_headed other header)
place_of (Some (always text)) may_lack name header = option_map (λ column. as_said text) (column_headed name header)

-- a line may lack a field of this kind
abbrev pub may_lack : FieldKind → Bool
may_lack (kind.MaybeRow table) = true
may_lack kind.MaybeText = true
may_lack kind.MaybeSerials = true
may_lack kind.Yes = true
may_lack kind.Flags = true
may_lack _ = false

-- a field of the form, and where it stands
pub record FieldPlace : Type 0 where
  pub name : List ℕ
  pub kind : FieldKind
  pub place : Place

abbrev pub field_places : Sayings → Blanks → Fields → Option (List FieldPlace)
field_places said [] header = Some []
field_places said (f ∷ fs) header =
    option_and_then
    (λ place. option_map (λ places. record { name = f.0; kind = f.1; place = place } ∷ places)
    (field_places said fs header)) (place_of (said_of said f.0) (may_lack f.1) f.0 header)

-- where each member of a line stands, and how many fields a record has at most
pub record SheetColumns : Type 0 where
  pub fields : List FieldPlace
  pub number : Place
  pub key : Place
  pub day : Place
  pub width : ℕ

abbrev pub columns_with : ℕ → List FieldPlace → Option Place → Option Place → Option Place → Option SheetColumns
columns_with width fields None k d = None
columns_with width fields (Some n) None d = None
columns_with width fields (Some n) (Some k) None = None
columns_with width fields (Some n) (Some k) (Some d) =
    Some (record { fields = fields; number = n; key = k; day = d; width = width })

abbrev pub is_column : Place → Bool
is_column (in_column i) = true
is_column (as_said text) = false
is_column nowhere = false

-- One field at least has a column: else a header in which another separator stands would be a layout.
abbrev pub has_column : List FieldPlace → Bool
has_column [] = false
has_column (f ∷ fs) = is_column f.place || has_column fs

abbrev pub with_column : List FieldPlace → Option (List FieldPlace)
with_column fields = if has_column fields then Some fields else None

-- the columns that a file's first record names
abbrev pub sheet_columns : Form → Sayings → Fields → Option SheetColumns
sheet_columns form said header =
    if are_texts header
    then option_and_then
    (λ fields. columns_with (length header) fields (place_of (said_of said (codes "number")) true (codes "number") header)
    (place_of (said_of said (codes "key")) true (codes "key") header)
    (place_of (said_of said (codes "day")) true (codes "day") header))
    (option_and_then with_column (field_places said form.fields header))
    else None

abbrev pub first_columns : Form → Sayings → List Fields → Option SheetColumns
first_columns form said [] = None
first_columns form said (r ∷ rs) = sheet_columns form said r

-- the first of these separators by which the first record names the columns, with the columns
abbrev pub layout_by : Form → Sayings → List ℕ → List ℕ → Option (ℕ × SheetColumns)
layout_by form said text separators = first_layout (first_columns form said) text separators

-- ---- what stands in a record

abbrev pub cell : Place → Fields → List ℕ
cell (in_column i) fields = field i fields
cell (as_said text) fields = text
cell nowhere fields = []

-- nobody filled in its column, if it has one
abbrev pub is_blank : Place → Fields → Bool
is_blank (in_column i) fields = length (field i fields) == 0
is_blank (as_said text) fields = true
is_blank nowhere fields = true

-- a record in which nothing is filled in but, it may be, its number
abbrev pub is_left_out : SheetColumns → Fields → Bool
is_left_out columns fields =
    list_all (λ f. is_blank f.place fields) columns.fields && is_blank columns.key fields && is_blank columns.day fields

-- ---- cells as values: whatever is wrong with one is the line's fault

abbrev pub number_or_text : List ℕ → Data
number_or_text text = by_number (number_in text)
  where
    by_number : Option ℕ → Data
    by_number (Some n) = number (unsigned n)
    by_number None = string text

-- an array or an object, as long as a line at most; not one with a float, of which no clause says how it is written
abbrev pub json_or_text : List ℕ → Data
json_or_text text = if is_json text then as_json (json_of text) else string text
  where
    as_json : Result Data What → Data
    as_json (Ok d) = if has_float d then string text else d
    as_json (Err what) = string text

abbrev pub row_or_text : List ℕ → Data
row_or_text text = by_number (number_in text)
  where
    by_number : Option ℕ → Data
    by_number (Some n) = number (unsigned n)
    by_number None = json_or_text text

abbrev pub yes_or_text : List ℕ → Data
yes_or_text text =
    if bytes_eq text (codes "yes") || bytes_eq text (codes "true") then boolean true
    else if bytes_eq text (codes "no") || bytes_eq text (codes "false") then boolean false
    else string text

-- a space, a comma or a semicolon
abbrev pub is_between_words : ℕ → Bool
is_between_words b = (b == 32) || (b == 44) || (b == 59)

-- the word, if it is one
abbrev pub word_list : List ℕ → List (List ℕ)
word_list [] = []
word_list (b ∷ bs) = (b ∷ bs) ∷ []

-- the words of a text, of which the first has begun so
abbrev pub words_from : List ℕ → List ℕ → List (List ℕ)
words_from word [] = word_list word
words_from word (b ∷ bs) =
    if is_between_words b then word_list word ++ words_from [] bs else words_from (word ++ b ∷ []) bs

abbrev pub words_of : List ℕ → Data
words_of text = array (items_of (map string (words_from [] text)))

abbrev pub value_of : FieldKind → List ℕ → Data
value_of kind.Number text = number_or_text text
value_of (kind.Row table) text = row_or_text text
value_of (kind.MaybeRow table) text = row_or_text text
value_of (kind.Rows table) text = json_or_text text
value_of kind.Yes text = yes_or_text text
value_of kind.Flags text = words_of text
value_of _ text = string text

-- a field whose cell is empty is left out; flags are none then
abbrev pub is_given : FieldKind → List ℕ → Bool
is_given kind.Flags text = true
is_given _ text = not (length text == 0)

-- ---- one line

abbrev pub with_cells : List FieldPlace → Fields → Members → Members
with_cells [] fields members = members
with_cells (f ∷ fs) fields members = with_cells fs fields
    (if is_given f.kind (cell f.place fields) then put f.name (value_of f.kind (cell f.place fields)) members else members)

abbrev pub or_else : List ℕ → List ℕ → List ℕ
or_else [] other = other
or_else (b ∷ bs) other = b ∷ bs

-- what numbers a record in its key: what stands in its column as it stands, or, where nothing does, the place of the
-- record in the file, behind a sign that no number has
abbrev pub number_told : SheetColumns → ℕ → Fields → List ℕ
number_told columns n fields = or_else (cell columns.number fields) (codes "@" ++ decimal n)

-- the key of the record at that place
abbrev pub key_of : List ℕ → List ℕ → SheetColumns → ℕ → Fields → List ℕ
key_of verb document columns n fields =
    or_else (cell columns.key fields)
    (verb ++ codes "/" ++ document ++ codes "/" ++ number_told columns n fields)

-- the record at that place, as a request, which is of the told day where the record has none
unfoldable pub line_data : List ℕ → List ℕ → List ℕ → SheetColumns → ℕ → Fields → Data
line_data verb document told columns n fields =
    object
    (with_cells columns.fields fields
    (put (codes "key") (string (key_of verb document columns n fields))
    (put (codes "day") (string (or_else (cell columns.day fields) told))
    (put (codes "do") (string verb) no_members))))

-- the record at this place isn't that one, if there is one in which a quote is open where the file ends
abbrev pub is_closed : Option ℕ → ℕ → Bool
is_closed None n = true
is_closed (Some unclosed) n = not (unclosed == n)

-- the line that the record at that place is
abbrev pub line_of : List ℕ → List ℕ → List ℕ → SheetColumns → Option ℕ → ℕ → Fields → Result (List ℕ) What
line_of verb document told columns unclosed n fields = do
  texts ← must Csv (are_texts fields)
  closed ← must Csv (is_closed unclosed n)
  fits ← must Csv (nat_le (length fields) columns.width)
  Ok (if is_left_out columns fields then [] else compact_text (line_data verb document told columns n fields))

-- ---- all lines

-- this text, and then the lines of the records, of which the first has that place; or the first fault
abbrev pub text_from : (ℕ → Fields → Result (List ℕ) What) → ℕ → List ℕ → List Fields → Result (List ℕ) WireFault
text_from line n text [] = Ok text
text_from line n text (r ∷ rs) = do
  l ← at n (line n r)
  text_from line (n + 1) (text ++ l ++ 10 ∷ []) rs

-- the lines of the records below the header, behind an empty one for it; a quote may be open in one of all
abbrev pub text_below : Option ℕ → (Option ℕ → ℕ → Fields → Result (List ℕ) What) → List Fields
    → Result (List ℕ) WireFault
text_below unclosed line rs = do
  closed ← at 1 (must Csv (is_closed unclosed 1))
  text_from (line unclosed) 2 (10 ∷ []) rs

abbrev pub text_by : List ℕ → List ℕ → List ℕ → List ℕ → Option (ℕ × SheetColumns) → Result (List ℕ) WireFault
text_by verb document told text None = at 1 (Err Header)
text_by verb document told text (Some layout) =
    text_below (open_record (config_by layout.0) text) (line_of verb document told layout.1)
    (drop 1 (records (config_by layout.0) text))

-- what is told beside a file: of which command its records are, what is said of members, which document it is, and the day
-- of a record that tells none
pub record Sheet : Type 0 where
  pub form : Form
  pub said : Sayings
  pub document : List ℕ
  pub day : CivilDay

abbrev pub sheet_text : Sheet → List ℕ → Result (List ℕ) WireFault
sheet_text sheet bytes = do
  fits ← at 0 (must TooLong (nat_le (length bytes) 16777216))
  text_by sheet.form.verb sheet.document (day_text sheet.day) (strip_bom bytes)
      (layout_by sheet.form sheet.said (strip_bom bytes) separators)
