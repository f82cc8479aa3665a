-- What words tell beside a file of records of a command.
use Rattle.std.specs.Prelude.{◌==◌, ◌&&◌, ◌++◌, ◌∷◌, [], ℕ, List, length, nat_lt, Bool, codes, if◌then◌else◌}
use Rattle.std.specs.Prelude.{Option, Some, None, is_none, option_and_then, unwrap_or}
use Rattle.std.specs.List.{after_first, before_first, position_or_len}
use Rattle.clap.specs.Words.{Row, Text, all_of, first_of}
use Rattle.word_core.specs.Day.{day_of}
use Rattle.word_core.specs.Forms.{Form, is_among, names_of}
use Rattle.desk_wire.specs.SheetForms.{sheet_form}
use Rattle.desk_wire.specs.Sheets.{Said, Sayings, Sheet, always, headed, said_of}
use Rattle.desk_wire.specs.Documents.{document_named}

-- all values of an option
abbrev pub values_in : Text → List Row → List Text
values_in id rows = unwrap_or (all_of id rows) []

abbrev pub is_equals : ℕ → Bool
is_equals b = b == 61

-- what stands before the first `=` of a word, and behind it
abbrev pub parts_of : Text → Option (Text × Text)
parts_of word =
    if nat_lt (position_or_len is_equals word) (length word)
    then Some (before_first is_equals word, after_first is_equals word) else None

-- a line of that form has a member of that name which may be told
abbrev pub is_member : Form → Text → Bool
is_member form name = is_among name (codes "number" ∷ codes "key" ∷ codes "day" ∷ names_of form.fields)

-- it has the member, of which nothing is said so far
abbrev pub may_tell : Form → Sayings → Text → Bool
may_tell form said name = is_member form name && is_none (said_of said name)

-- what one word more says
abbrev pub with_saying : Form → (Text → Said) → Sayings → Text → Option Sayings
with_saying form what said word = option_and_then add (parts_of word)
  where
    add : Text × Text → Option Sayings
    add parts = if may_tell form said parts.0 then Some (said ++ (parts.0, what parts.1) ∷ []) else None

abbrev pub with_sayings : Form → (Text → Said) → Sayings → List Text → Option Sayings
with_sayings form what said [] = Some said
with_sayings form what said (w ∷ ws) =
    option_and_then (λ more. with_sayings form what more ws) (with_saying form what said w)

-- each member is told once: its text, by `--set`, or the name of its column, by `--column`
abbrev pub sayings_in : Form → List Row → Option Sayings
sayings_in form rows =
    option_and_then (λ said. with_sayings form headed said (values_in (codes "column") rows))
    (with_sayings form always [] (values_in (codes "set") rows))

infixl 10 ◌>>=◌
abbrev ◌>>=◌ : {A B : Type 0} → Option A → (A → Option B) → Option B
None >>= f = None
(Some x) >>= f = f x

-- what is told beside a file of records of that form's command
unfoldable pub sheet_in : Form → List Row → Option Sheet
sheet_in form rows = do
  said ← sayings_in form rows
  document ← option_and_then document_named (first_of (codes "document") rows)
  day ← option_and_then day_of (first_of (codes "day") rows)
  Some (record { form = form; said = said; document = document; day = day })

-- the form of the command that is named as the kind of a file
abbrev pub form_in : List Row → Option Form
form_in rows = option_and_then sheet_form (first_of (codes "kind") rows)
