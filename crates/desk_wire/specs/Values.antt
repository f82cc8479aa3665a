-- Values of JSON, and the members of an object.
use Rattle.std.specs.Prelude.{ℕ, List, ◌&&◌, Bool, true, is_some}
use Rattle.std.specs.Prelude.{Option, Some, None, option_and_then, Result, Ok, if◌then◌else◌}
use Rattle.std.specs.Str.{is_utf8}
use Rattle.serde_json.specs.Data.{Data, Items, no_items, item}
use Rattle.serde_json.specs.Find.{get, as_null, as_number, as_str, as_u64}
use Rattle.serde_json.specs.Read.{read}
use Rattle.word_core.specs.Serials as texts
use Rattle.desk_core.specs.Key.{is_key}
use Rattle.desk_wire.specs.declared.fault.What.{What}
use Rattle.desk_wire.specs.declared.fault.What.TheVariants.{NoField, WrongType, BadKey}
use Rattle.desk_wire.specs.Steps.{◌>>=◌, or_fault, must}
use Rattle.desk_wire.specs.Texts.{row_text_from, listed}

-- what JSON text is, as `serde_json` reads it
abbrev pub parsed : List ℕ → Option Data
parsed text = if is_utf8 text then read text else None

-- ---- values

-- without sign, fraction and exponent, and less than 2 to the 64
abbrev pub number_of : Data → Result ℕ What
number_of value = or_fault WrongType (option_and_then as_u64 (as_number value))

abbrev pub text_of : Data → Result (List ℕ) What
text_of value = or_fault WrongType (as_str value)

-- a text that may stand in a row
abbrev pub row_text_of : Data → Result (List ℕ) What
row_text_of value = do
  text ← text_of value
  row_text_from text

abbrev pub serials_of : Data → Result (List (List ℕ)) What
serials_of value = do
  text ← text_of value
  listed (texts.serials_in text)

abbrev pub key_of : Data → Result (List ℕ) What
key_of value = do
  text ← text_of value
  fits ← must BadKey (is_key text)
  Ok text

-- ---- members

-- a member that may be missing or null
abbrev pub given : List ℕ → Data → Option Data
given name d = unless_null (get name d)
  where
    unless_null : Option Data → Option Data
    unless_null None = None
    unless_null (Some value) = if is_some (as_null value) then None else Some value

abbrev pub member_in : List ℕ → Data → Result Data What
member_in name d = or_fault NoField (get name d)

abbrev pub text_in : List ℕ → Data → Result (List ℕ) What
text_in name d = do
  value ← member_in name d
  text_of value

-- ---- arrays

abbrev pub are_texts : Items → Bool
are_texts no_items = true
are_texts (item d ds) = is_some (as_str d) && are_texts ds
