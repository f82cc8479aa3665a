-- Values as JSON data.
use Rattle.std.specs.Prelude.{ℕ, List, map, Option, Some, None}
use Rattle.serde_json.specs.Data.{Data, null, boolean, string, number, unsigned, array}
use Rattle.serde_json.specs.View.{items_of}
use Rattle.word_core.specs.Flags.{flag_words}
use Rattle.word_core.specs.Side.{side_name}
use Rattle.word_core.specs.Status.{status_name}
use Rattle.word_core.specs.declared.field.Field.{Field}
use Rattle.word_core.specs.declared.field.Field.TheVariants as field

abbrev pub whole : ℕ → Data
whole n = number (unsigned n)

-- null for none
abbrev pub maybe_whole : Option ℕ → Data
maybe_whole None = null
maybe_whole (Some n) = whole n

abbrev pub maybe_string : Option (List ℕ) → Data
maybe_string None = null
maybe_string (Some s) = string s

abbrev pub wholes : List ℕ → Data
wholes ns = array (items_of (map whole ns))

abbrev pub strings : List (List ℕ) → Data
strings ts = array (items_of (map string ts))

-- null for none
abbrev pub maybe_strings : Option (List (List ℕ)) → Data
maybe_strings None = null
maybe_strings (Some ts) = strings ts

-- what stands in a field
abbrev pub data_of : Field → Data
data_of (field.Number n) = whole n
data_of (field.MaybeNumber n) = maybe_whole n
data_of (field.Text t) = string t
data_of (field.MaybeText t) = maybe_string t
data_of (field.Yes b) = boolean b
data_of (field.Flags f) = strings (flag_words f)
data_of (field.Status s) = string (status_name s)
data_of (field.Side s) = string (side_name s)
data_of (field.Serials ts) = strings ts
data_of (field.MaybeSerials ts) = maybe_strings ts
data_of (field.Numbers ns) = wholes ns
