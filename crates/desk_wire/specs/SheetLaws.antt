-- What is so of every sheet.
use Rattle.std.specs.Prelude.{ℕ, ◌≡◌, ◌⊎◌, ◌+◌, ◌++◌, ◌<◌, ◌^◌, ◌==◌, Bool, List, [], ◌∷◌, map, drop, codes, true, false, not}
use Rattle.std.specs.Prelude.{Option, Some, IsSome, Result, Ok}
use Rattle.std.specs.List.{list_all}
use Rattle.csv.specs.Reading.{records, strip_bom}
use Rattle.serde_json.specs.Data.{string}
use Rattle.serde_json.specs.Find.{get}
use Rattle.serde_json.specs.Written.{compact_text}
use Rattle.word_core.specs.Day.{day_text}
use Rattle.word_core.specs.Forms.{is_among}
use Rattle.desk_core.specs.Naming.{Naming}
use Rattle.desk_wire.specs.declared.fault.What.{What}
use Rattle.desk_wire.specs.declared.read.Wish.{Wish}
use Rattle.desk_wire.specs.declared.read.Wish.TheVariants.{Request, Report}
use Rattle.desk_wire.specs.Imports.{separators}
use Rattle.desk_wire.specs.Quotes.{open_record}
use Rattle.desk_wire.specs.Reading as reading
use Rattle.desk_wire.specs.Records.{Fields, config_by}
use Rattle.desk_wire.specs.SheetForms.{sheet_form}
use Rattle.desk_wire.specs.Sheets.{Sheet, SheetColumns, cell, key_of, layout_by, line_data, line_of, sheet_text}

-- a record is a request under its key, as no form has a field of that name
abbrev pub RecordsHaveKeys : Type 0
RecordsHaveKeys =
    (verb document told : List ℕ) (columns : SheetColumns) (n : ℕ) (fields : Fields)
    → is_among (codes "key") (map (λ f. f.name) columns.fields) ≡ false
    → get (codes "key") (line_data verb document told columns n fields)
    ≡ Some (string (key_of verb document columns n fields))

-- it begins with the sign behind which a place stands
abbrev pub begins_as_place : List ℕ → Bool
begins_as_place [] = false
begins_as_place (b ∷ bs) = b == 64

-- a record that tells no key of its own, and no number that begins as a place does
pub record IsNumbered (columns : SheetColumns) (fields : Fields) : Type 0 where
  pub no_key : cell columns.key fields ≡ []
  pub number : begins_as_place (cell columns.number fields) ≡ false

-- such records of a file that have one key have one number, or are one record
abbrev pub KeysTellRecords : Type 0
KeysTellRecords =
    (verb document : List ℕ) (columns : SheetColumns) (m n : ℕ) (a b : Fields) → m < 2 ^ 64 → n < 2 ^ 64
    → IsNumbered columns a → IsNumbered columns b
    → key_of verb document columns m a ≡ key_of verb document columns n b
    → (cell columns.number a ≡ cell columns.number b) × (cell columns.number a ≡ [] → m ≡ n)

-- ---- a line that is read

-- it asks for something under this key, and for no report
abbrev pub AsksUnder : List ℕ → Wish → Type 0
AsksUnder key (Request request) = request.key ≡ Some key
AsksUnder key (Report name of) = ⊥

-- whatever the line of a record is read as is a request under the record's key, as no form has a field named `do` or `key`
abbrev pub LinesAskUnderKeys : Type 0
LinesAskUnderKeys =
    (names : Option Naming) (verb document told : List ℕ) (columns : SheetColumns) (n : ℕ) (fields : Fields) (wish : Wish)
    → is_among (codes "do") (map (λ f. f.name) columns.fields) ≡ false
    → is_among (codes "key") (map (λ f. f.name) columns.fields) ≡ false
    → reading.line names (compact_text (line_data verb document told columns n fields)) ≡ Ok wish
    → AsksUnder (key_of verb document columns n fields) wish

-- ---- the lines of a text

-- without a line end
abbrev pub is_one_line : List ℕ → Bool
is_one_line = list_all (λ b. not (b == 10))

-- each with a line end behind it
abbrev pub ended : List (List ℕ) → List ℕ
ended [] = []
ended (l ∷ ls) = l ++ 10 ∷ ended ls

-- these are the lines of the records, one of each, in their order, of which the first has that place
abbrev pub AreLinesOf : (ℕ → Fields → Result (List ℕ) What) → ℕ → List Fields → List (List ℕ) → Type 0
AreLinesOf line n [] [] = Unit {0}
AreLinesOf line n [] (l ∷ ls) = ⊥
AreLinesOf line n (r ∷ rs) [] = ⊥
AreLinesOf line n (r ∷ rs) (l ∷ ls) = (line n r ≡ Ok l) × (is_one_line l ≡ true) × AreLinesOf line (n + 1) rs ls

-- by the file's separator and columns: an empty line for the header, and then the line of each other record
pub record LinesOfSheet (sheet : Sheet) (bytes text : List ℕ) : Type 0 where
  pub separator : ℕ
  pub columns : SheetColumns
  pub lines : List (List ℕ)
  pub layout : layout_by sheet.form sheet.said (strip_bom bytes) separators ≡ Some (separator, columns)
  pub each : AreLinesOf
      (line_of sheet.form.verb sheet.document (day_text sheet.day) columns
      (open_record (config_by separator) (strip_bom bytes)))
      2 (drop 1 (records (config_by separator) (strip_bom bytes))) lines
  pub whole : text ≡ ended ([] ∷ lines)

-- So line n of the text is record n. Its lines are those of the records of the file as they are read.
abbrev pub SheetsAreLines : Type 0
SheetsAreLines = (sheet : Sheet) (bytes text : List ℕ) → sheet_text sheet bytes ≡ Ok text → LinesOfSheet sheet bytes text

-- it asks for something under a key, and for no report
abbrev pub IsKeyed : Wish → Type 0
IsKeyed (Request request) = IsSome request.key
IsKeyed (Report name of) = ⊥

-- each line is empty, or whatever it is read as is a request under a key
abbrev pub AreKeyed : List (List ℕ) → Type 0
AreKeyed [] = Unit {0}
AreKeyed (l ∷ ls) =
    ((l ≡ []) ⊎ ((names : Option Naming) (wish : Wish) → reading.line names l ≡ Ok wish → IsKeyed wish)) × AreKeyed ls

-- the lines of a file of a command are
abbrev pub SheetsAskUnderKeys : Type 0
SheetsAskUnderKeys =
    (command : List ℕ) (sheet : Sheet) (bytes text : List ℕ) → sheet_form command ≡ Some sheet.form
    → sheet_text sheet bytes ≡ Ok text
    → (lines : List (List ℕ)) × (list_all is_one_line lines ≡ true) × AreKeyed lines × (text ≡ ended lines)
