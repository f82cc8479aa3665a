-- The number of a row, as a field says it: the number itself or, where names are allowed, what a clerk calls the row.
use Rattle.std.specs.Prelude.{ℕ, List, [], ◌∷◌, codes, is_some, Option, Some, None, Result, Ok, Err}
use Rattle.std.specs.Prelude.{if◌then◌else◌}
use Rattle.serde_json.specs.Data.{Data, Items, no_items, item}
use Rattle.serde_json.specs.Find.{get, as_str, as_array, as_object}
use Rattle.word_core.specs.Serial.{is_serial}
use Rattle.word_core.specs.declared.field.RowKind.{RowKind}
use Rattle.word_core.specs.declared.field.RowKind.TheVariants.{Category, Part, Location, Item}
use Rattle.part_core.specs.declared.found.Found.{Found}
use Rattle.part_core.specs.declared.found.Found.TheVariants.{Nothing, One, Several}
use Rattle.desk_core.specs.Naming.{Naming}
use Rattle.desk_wire.specs.declared.fault.What.{What}
use Rattle.desk_wire.specs.declared.fault.What.TheVariants.{WrongType, UnknownField, BadSerials, NoName, Ambiguous}
use Rattle.desk_wire.specs.Steps.{◌>>=◌, or_fault, must}
use Rattle.desk_wire.specs.Members.{knows_all}
use Rattle.desk_wire.specs.TextWays.{by_text_way}
use Rattle.desk_wire.specs.Values.{number_of, text_of, key_of, member_in, text_in, are_texts}

-- the row of a number, whether or not there is one
abbrev pub by_number : Data → Result Found What
by_number value = do
  n ← number_of value
  Ok (One n)

-- what the one row leads to, where a name is one row
abbrev pub through : Found → (ℕ → Result Found What) → Result Found What
through Nothing next = Ok Nothing
through (One n) next = next n
through Several next = Ok Several

-- ---- a text: the name of a part, or of what stands at the top of its tree, or else the way to it

abbrev pub by_text : Naming → RowKind → List ℕ → Result Found What
by_text names Part text = Ok (names.part text)
by_text names Category text = Ok (by_text_way names.category text)
by_text names Location text = Ok (by_text_way names.location text)
by_text names _ text = Err WrongType

-- ---- an array: the names on the way from the top of a tree

-- the last of these, each under the one before it
abbrev pub down : (Option ℕ → List ℕ → Found) → Option ℕ → Items → Result Found What
down child parent no_items = do
  n ← or_fault WrongType parent
  Ok (One n)
down child parent (item d ds) = do
  name ← text_of d
  through (child parent name) (λ n. down child (Some n) ds)

abbrev pub by_path : Naming → RowKind → Items → Result Found What
by_path names Category items = do
  texts ← must WrongType (are_texts items)
  down names.category None items
by_path names Location items = do
  texts ← must WrongType (are_texts items)
  down names.location None items
by_path names _ items = Err WrongType

-- ---- an object: the key of the request that made the row, or the part and the serial of an item

abbrev pub by_key : Naming → Data → Result Found What
by_key names d = do
  known ← must UnknownField (knows_all (codes "key" ∷ []) d)
  value ← member_in (codes "key") d
  key ← key_of value
  Ok (names.made key)

-- a part by its number or its name
abbrev pub part_of : Naming → Data → Result Found What
part_of names value = named (as_str value)
  where
    named : Option (List ℕ) → Result Found What
    named None = by_number value
    named (Some text) = Ok (names.part text)

abbrev pub serial_in : Data → Result (List ℕ) What
serial_in d = do
  text ← text_in (codes "serial") d
  fits ← must BadSerials (is_serial text)
  Ok text

-- the newest item of that part with the serial, of those that are left where there is one
abbrev pub item_of : Naming → Data → ℕ → Result Found What
item_of names d part = do
  serial ← serial_in d
  Ok (names.item part serial)

abbrev pub by_serial : Naming → Data → Result Found What
by_serial names d = do
  known ← must UnknownField (knows_all (codes "part" ∷ codes "serial" ∷ []) d)
  value ← member_in (codes "part") d
  part ← part_of names value
  through part (item_of names d)

abbrev pub by_object : Naming → RowKind → Data → Result Found What
by_object names table d = if is_some (get (codes "key") d) then by_key names d else as_item table
  where
    as_item : RowKind → Result Found What
    as_item Item = by_serial names d
    as_item _ = Err WrongType

-- ---- all of these

-- what a value is found to call
abbrev pub by_name : Naming → RowKind → Data → Result Found What
by_name names table value = of_text (as_str value)
  where
    of_array : Option Items → Result Found What
    of_array (Some items) = by_path names table items
    of_array None = if is_some (as_object value) then by_object names table value else by_number value

    of_text : Option (List ℕ) → Result Found What
    of_text (Some text) = by_text names table text
    of_text None = of_array (as_array value)

-- the one row that was found for the field of that name
abbrev pub one_row : List ℕ → Found → Result ℕ What
one_row field Nothing = Err (NoName field)
one_row field (One n) = Ok n
one_row field Several = Err (Ambiguous field)

-- the row of that table, as the field of that name says it
abbrev pub row_of : Option Naming → RowKind → List ℕ → Data → Result ℕ What
row_of None table field value = number_of value
row_of (Some names) table field value = do
  found ← by_name names table value
  one_row field found
