-- A report as lines of fields, as text and as JSON.
use Rattle.std.specs.Prelude.{◌≡◌, ℕ, List, [], ◌∷◌, ◌++◌, map, Bool, false, true, if◌then◌else◌}
use Rattle.std.specs.Prelude.{Option, Some, None, Result, Ok, Err, String, string_bytes}
use Rattle.std.specs.declared.alloc.Global.{Global}
use Rattle.std.specs.declared.vec.Vec.{Vec}
use Rattle.serde_json.specs.Data.{Data, string, array}
use Rattle.serde_json.specs.View.{items_of}
use Rattle.word_core.specs.declared.refusal.CoreFault.{CoreFault}
use Rattle.word_core.specs.declared.refusal.CoreFault.TheVariants.{Refused, Memory}
use Rattle.word_core.specs.declared.refusal.Refusal.TheVariants.{NoSuch}

-- lines of fields, each the bytes of a text
abbrev pub Lines : Type 0
Lines = List (List (List ℕ))

-- the fields of a line
abbrev pub fields_of : Vec (String Global) Global → List (List ℕ)
fields_of line = map string_bytes line.items

abbrev pub lines_of : List (Vec (String Global) Global) → Lines
lines_of lines = map fields_of lines

-- ---- as text

-- fields with a tab between two
abbrev pub fields_text : Bool → List (List ℕ) → List ℕ
fields_text later [] = []
fields_text later (f ∷ fs) = (if later then 9 ∷ [] else []) ++ (f ++ fields_text true fs)

-- a line with its LF
abbrev pub line_text : List (List ℕ) → List ℕ
line_text fields = fields_text false fields ++ 10 ∷ []

abbrev pub report_text : Lines → List ℕ
report_text [] = []
report_text (l ∷ ls) = line_text l ++ report_text ls

-- ---- as JSON

-- a line as the array of its fields
abbrev pub line_data : List (List ℕ) → Data
line_data fields = array (items_of (map string fields))

-- a report as the array of its lines
abbrev pub report_data : Lines → Data
report_data lines = array (items_of (map line_data lines))

-- ---- what a call gives

-- these lines; or NoSuch where there are none; or it ran out of memory
abbrev pub Gives : Option Lines → Result Lines CoreFault → Type 0
Gives lines (Ok report) = lines ≡ Some report
Gives lines (Err (Refused refusal)) = (refusal ≡ NoSuch) × (lines ≡ None)
Gives lines (Err Memory) = Unit {0}
