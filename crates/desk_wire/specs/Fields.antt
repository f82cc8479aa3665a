-- The fields of an object, each by its kind, in the order of a form.
use Rattle.std.specs.Prelude.{ℕ, List, [], ◌∷◌, ◌++◌, Bool, false, codes}
use Rattle.std.specs.Prelude.{Option, Some, None, Result, Ok}
use Rattle.serde_json.specs.Data.{Data, Items, no_items, item}
use Rattle.serde_json.specs.Find.{get, as_bool, as_array}
use Rattle.word_core.specs.Day.{CivilDay, day_of}
use Rattle.word_core.specs.declared.field.FieldKind.{FieldKind}
use Rattle.word_core.specs.declared.field.FieldKind.TheVariants as kind
use Rattle.word_core.specs.declared.field.Field.{Field}
use Rattle.word_core.specs.declared.field.Field.TheVariants as field
use Rattle.word_core.specs.declared.field.RowKind.{RowKind}
use Rattle.word_core.specs.declared.flags.Flags.{Flags}
use Rattle.word_core.specs.declared.side.Side.{Side}
use Rattle.word_core.specs.declared.status.Status.{Status}
use Rattle.word_core.specs.Flags.{no_flags, with_word}
use Rattle.word_core.specs.Forms.{Blanks}
use Rattle.word_core.specs.Named.{named}
use Rattle.word_core.specs.Side.{all_sides, side_name}
use Rattle.word_core.specs.Status.{all_statuses, status_name}
use Rattle.desk_core.specs.Naming.{Naming}
use Rattle.desk_wire.specs.declared.fault.What.{What}
use Rattle.desk_wire.specs.declared.fault.What.TheVariants.{WrongType, BadDay, BadWord}
use Rattle.desk_wire.specs.Steps.{◌>>=◌, or_fault, must, maybe}
use Rattle.desk_wire.specs.RowNames.{row_of}
use Rattle.desk_wire.specs.Values.{number_of, text_of, row_text_of, serials_of, key_of, given, member_in, text_in, are_texts}

-- ---- members

abbrev pub number_in : List ℕ → Data → Result ℕ What
number_in name d = do
  value ← member_in name d
  number_of value

abbrev pub row_in : Option Naming → RowKind → List ℕ → Data → Result ℕ What
row_in names table name d = do
  value ← member_in name d
  row_of names table name value

abbrev pub maybe_row_in : Option Naming → RowKind → List ℕ → Data → Result (Option ℕ) What
maybe_row_in names table name d = maybe (row_of names table name) (given name d)

abbrev pub row_text_in : List ℕ → Data → Result (List ℕ) What
row_text_in name d = do
  value ← member_in name d
  row_text_of value

abbrev pub maybe_row_text_in : List ℕ → Data → Result (Option (List ℕ)) What
maybe_row_text_in name d = maybe row_text_of (given name d)

-- what is missing is false
abbrev pub yes_in : List ℕ → Data → Result Bool What
yes_in name d = or_no (get name d)
  where
    or_no : Option Data → Result Bool What
    or_no None = Ok false
    or_no (Some value) = or_fault WrongType (as_bool value)

-- no key where it is missing; null is no text
abbrev pub key_in : Data → Result (Option (List ℕ)) What
key_in d = maybe key_of (get (codes "key") d)

abbrev pub day_in : Data → Result CivilDay What
day_in d = do
  text ← text_in (codes "day") d
  or_fault BadDay (day_of text)

abbrev pub serials_in : List ℕ → Data → Result (List (List ℕ)) What
serials_in name d = do
  value ← member_in name d
  serials_of value

abbrev pub maybe_serials_in : List ℕ → Data → Result (Option (List (List ℕ))) What
maybe_serials_in name d = maybe serials_of (given name d)

abbrev pub status_in : List ℕ → Data → Result Status What
status_in name d = do
  text ← text_in name d
  or_fault BadWord (named status_name all_statuses text)

abbrev pub side_in : List ℕ → Data → Result Side What
side_in name d = do
  text ← text_in name d
  or_fault BadWord (named side_name all_sides text)

-- ---- arrays

-- these numbers and then those of the items, each of which is a row in the field of that name
abbrev pub with_rows : Option Naming → RowKind → List ℕ → List ℕ → Items → Result (List ℕ) What
with_rows names table name numbers no_items = Ok numbers
with_rows names table name numbers (item d ds) = do
  n ← row_of names table name d
  with_rows names table name (numbers ++ n ∷ []) ds

abbrev pub rows_in : Option Naming → RowKind → List ℕ → Data → Result (List ℕ) What
rows_in names table name d = do
  value ← member_in name d
  items ← or_fault WrongType (as_array value)
  with_rows names table name [] items

-- each word sets a flag more
abbrev pub with_words : Flags → Items → Result Flags What
with_words flags no_items = Ok flags
with_words flags (item d ds) = do
  word ← text_of d
  more ← or_fault BadWord (with_word flags word)
  with_words more ds

abbrev pub flags_in : List ℕ → Data → Result Flags What
flags_in name d = do
  value ← member_in name d
  words ← or_fault WrongType (as_array value)
  texts ← must WrongType (are_texts words)
  with_words no_flags words

-- ---- fields

abbrev pub as_field : {A : Type 0} → (A → Field) → Result A What → Result Field What
as_field make reading = do
  value ← reading
  Ok (make value)

-- the field of that kind
abbrev pub field_in : Option Naming → List ℕ → FieldKind → Data → Result Field What
field_in names name kind.Number d = as_field field.Number (number_in name d)
field_in names name (kind.Row table) d = as_field field.Number (row_in names table name d)
field_in names name (kind.MaybeRow table) d = as_field field.MaybeNumber (maybe_row_in names table name d)
field_in names name kind.Text d = as_field field.Text (row_text_in name d)
field_in names name kind.MaybeText d = as_field field.MaybeText (maybe_row_text_in name d)
field_in names name kind.Yes d = as_field field.Yes (yes_in name d)
field_in names name kind.Flags d = as_field field.Flags (flags_in name d)
field_in names name kind.Status d = as_field field.Status (status_in name d)
field_in names name kind.Side d = as_field field.Side (side_in name d)
field_in names name kind.Serials d = as_field field.Serials (serials_in name d)
field_in names name kind.MaybeSerials d = as_field field.MaybeSerials (maybe_serials_in name d)
field_in names name (kind.Rows table) d = as_field field.Numbers (rows_in names table name d)

-- these fields and then those of the form that are left, in its order, or the first fault
abbrev pub fields_from : Option Naming → List Field → Blanks → Data → Result (List Field) What
fields_from names front [] d = Ok front
fields_from names front (f ∷ fs) d = do
  x ← field_in names f.0 f.1 d
  fields_from names (front ++ x ∷ []) fs d
