-- Which member of a faulty line is wrong: the first that can't be read, in the order in which a line is read.
use Rattle.std.specs.Prelude.{◌≡◌, ℕ, List, [], ◌∷◌, false, codes, if◌then◌else◌, String, string_bytes}
use Rattle.std.specs.Prelude.{Option, Some, None, option_and_then, Result, Ok, Err}
use Rattle.serde_json.specs.Data.{Data, Members, no_members, member}
use Rattle.serde_json.specs.Find.{as_object, get}
use Rattle.serde_json.specs.Written.{compact_text, has_float}
use Rattle.word_core.specs.FormTables.{forms_by}
use Rattle.word_core.specs.Forms.{Blanks, Form, form_named, is_among, members_of}
use Rattle.desk_core.specs.CommandForms.{command_forms}
use Rattle.desk_core.specs.Naming.{Naming}
use Rattle.report_core.specs.Names.{report_named}
use Rattle.std.specs.declared.alloc.Global.{Global}
use Rattle.desk_wire.specs.declared.fault.What.{What}
use Rattle.desk_wire.specs.declared.fault.What.TheVariants.{BadWord, UnknownCommand}
use Rattle.desk_wire.specs.declared.fault.WrongField.{WrongField}
use Rattle.desk_wire.specs.Fields.{day_in, field_in, key_in}
use Rattle.desk_wire.specs.Reading.{is_report, object_of, of_in, report_table}
use Rattle.desk_wire.specs.Steps.{◌>>=◌, at_fault, or_fault}
use Rattle.desk_wire.specs.Values.{member_in, text_in, text_of}

-- a member's name, and the value that stands there, if it is there
abbrev pub Wrong : Type 0
Wrong = List ℕ × Option Data

-- where the reading of a member fails, that member; else what is wrong later
abbrev pub unless_read : {A : Type 0} → List ℕ → Data → Result A What → Option Wrong → Option Wrong
unless_read name d reading later = at_fault name (get name d) reading later

-- the first of the members that has none of these names
abbrev pub first_unknown : List (List ℕ) → Members → Option Wrong
first_unknown names no_members = None
first_unknown names (member k d ms) = if is_among k names then first_unknown names ms else Some (k, Some d)

abbrev pub unknown_in : List (List ℕ) → Data → Option Wrong
unknown_in names d = option_and_then (first_unknown names) (as_object d)

abbrev pub or_later : Option Wrong → Option Wrong → Option Wrong
or_later None later = later
or_later (Some wrong) later = Some wrong

-- the first field of a form that can't be read
abbrev pub wrong_field : Option Naming → Blanks → Data → Option Wrong
wrong_field names [] d = None
wrong_field names (f ∷ fs) d = unless_read f.0 d (field_in names f.0 f.1 d) (wrong_field names fs d)

-- what is wrong with a request of that form
abbrev pub wrong_by_form : Option Naming → Data → Result Form What → Option Wrong
wrong_by_form names d (Err what) = Some (codes "do", get (codes "do") d)
wrong_by_form names d (Ok form) =
    or_later (unknown_in (members_of form) d)
    (unless_read (codes "key") d (key_in d)
    (unless_read (codes "day") d (day_in d) (wrong_field names form.fields d)))

-- the form of the object's verb
abbrev pub verb_form : Data → Result Form What
verb_form d = do
  value ← member_in (codes "do") d
  verb ← text_of value
  or_fault UnknownCommand (form_named verb (forms_by command_forms))

abbrev pub wrong_in_request : Option Naming → Data → Option Wrong
wrong_in_request names d = wrong_by_form names d (verb_form d)

abbrev pub report_word : Data → Result (List ℕ) What
report_word d = do
  text ← text_in (codes "report") d
  name ← or_fault BadWord (report_named text)
  Ok text

abbrev pub wrong_in_report : Option Naming → Data → Option Wrong
wrong_in_report names d =
    or_later (unknown_in (codes "of" ∷ codes "report" ∷ []) d)
    (unless_read (codes "of") d (of_in names (report_table d) d)
    (unless_read (codes "report") d (report_word d) None))

abbrev pub wrong_in_object : Option Naming → Result Data What → Option Wrong
wrong_in_object names (Err what) = None
wrong_in_object names (Ok d) = if is_report d then wrong_in_report names d else wrong_in_request names d

-- the member of a line that is wrong, if it is one: none where the line is no object
abbrev pub wrong_in_line : Option Naming → List ℕ → Option Wrong
wrong_in_line names bytes = wrong_in_object names (object_of bytes)

-- ---- as it is told

-- the text of a value; how a number with a fraction is spelled is left open
abbrev pub Spells : Option (String Global) → Option Data → Type 0
Spells None None = Unit {0}
Spells (Some text) (Some value) = has_float value ≡ false → string_bytes text ≡ compact_text value
Spells _ _ = ⊥

abbrev pub TellsField : Option WrongField → Option Wrong → Type 0
TellsField None None = Unit {0}
TellsField (Some field) (Some wrong) = (string_bytes field.name ≡ wrong.0) × Spells field.text wrong.1
TellsField _ _ = ⊥
