-- A word that says a row: an argument of a command, or a field of a file.
use Rattle.std.specs.Prelude.{ℕ, ◌≡◌, List, Bool, ◌||◌, nat_eq, nat_le, length, codes}
use Rattle.std.specs.Prelude.{Option, Some, None, Result, Ok, Err, if◌then◌else◌}
use Rattle.std.specs.List.{starts_with}
use Rattle.serde_json.specs.Data.{Data}
use Rattle.word_core.specs.declared.field.RowKind.{RowKind}
use Rattle.part_core.specs.declared.found.Found.{Found}
use Rattle.desk_core.specs.Naming.{Naming}
use Rattle.desk_wire.specs.declared.fault.What.{What}
use Rattle.desk_wire.specs.declared.fault.What.TheVariants.{WrongType}
use Rattle.desk_wire.specs.Steps.{◌>>=◌, or_fault, must}
use Rattle.desk_wire.specs.Numbers.{number_in}
use Rattle.desk_wire.specs.RowNames.{by_text, by_name, one_row}
use Rattle.desk_wire.specs.Values.{parsed}

-- a word that is a number alone
abbrev pub number_of : List ℕ → Result ℕ What
number_of word = or_fault WrongType (number_in word)

-- a word that is to be JSON: an array or an object
abbrev pub is_json : List ℕ → Bool
is_json word = starts_with nat_eq word (codes "[") || starts_with nat_eq word (codes "{")

-- the value that such a word is, which may be as long as a line
abbrev pub json_of : List ℕ → Result Data What
json_of word = do
  fits ← must WrongType (nat_le (length word) 65536)
  or_fault WrongType (parsed word)

-- what a word that is no number is found to call
abbrev pub by_word : Naming → RowKind → List ℕ → Result Found What
by_word names table word = if is_json word then as_json else by_text names table word
  where
    as_json : Result Found What
    as_json = do
      value ← json_of word
      by_name names table value

-- the row of that table, as a word says it in the field of that name
abbrev pub row_at_word : Option Naming → RowKind → List ℕ → List ℕ → Result ℕ What
row_at_word names table field word = by_number (number_in word)
  where
    called : Option Naming → Result ℕ What
    called None = Err WrongType
    called (Some names) = do
      found ← by_word names table word
      one_row field found

    by_number : Option ℕ → Result ℕ What
    by_number (Some n) = Ok n
    by_number None = called names

-- without names a word is a number alone
abbrev pub WordsAreNumbers : Type 0
WordsAreNumbers = (table : RowKind) (field word : List ℕ) → row_at_word None table field word ≡ number_of word
