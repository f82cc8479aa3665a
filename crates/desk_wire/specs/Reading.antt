-- What a line asks for, its wish, or its first fault.
use Rattle.std.specs.Prelude.{◌≡◌, ◌⊎◌, ℕ, List, [], ◌∷◌, ◌&&◌, Bool, nat_le, length, codes}
use Rattle.std.specs.Prelude.{is_some, is_none, Option, Some, None, option_map, option_and_then, Result, Ok, Err, if◌then◌else◌}
use Rattle.serde_json.specs.Data.{Data}
use Rattle.serde_json.specs.Find.{get, as_object, as_str}
use Rattle.word_core.specs.declared.field.Field.{Field}
use Rattle.word_core.specs.Forms.{Form, form_named, members_of}
use Rattle.word_core.specs.FormTables.{command_by, forms_by}
use Rattle.word_core.specs.declared.field.RowKind.{RowKind}
use Rattle.word_core.specs.declared.field.RowKind.TheVariants as table
use Rattle.desk_core.specs.CommandForms.{command_forms}
use Rattle.desk_core.specs.Naming.{Naming}
use Rattle.desk_core.specs.declared.command.Request.{Request}
use Rattle.report_core.specs.Names.{report_named}
use Rattle.report_core.specs.declared.name.ReportName.{ReportName}
use Rattle.report_core.specs.declared.name.ReportName.TheVariants.{Ledger, Stock, WhereUsed, History, Content, Shortage}
use Rattle.desk_wire.specs.declared.fault.What.{What}
use Rattle.desk_wire.specs.declared.fault.What.TheVariants.{TooLong, NotJson, NotObject, WrongType}
use Rattle.desk_wire.specs.declared.fault.What.TheVariants.{UnknownCommand, UnknownField, BadWord}
use Rattle.desk_wire.specs.declared.read.Wish.{Wish}
use Rattle.desk_wire.specs.declared.read.Wish.TheVariants as wish
use Rattle.desk_wire.specs.Steps.{◌>>=◌, or_fault, must}
use Rattle.desk_wire.specs.Fields.{number_in, key_in, day_in, row_in, fields_from}
use Rattle.desk_wire.specs.Values.{parsed, member_in, text_of, text_in}
use Rattle.desk_wire.specs.Members.{knows_all}

-- the object of a line
abbrev pub object_of : List ℕ → Result Data What
object_of bytes = do
  fits ← must TooLong (nat_le (length bytes) 65536)
  d ← or_fault NotJson (parsed bytes)
  members ← or_fault NotObject (as_object d)
  Ok d

-- ---- requests

-- the form of the object's verb, where the form has each member of the object
abbrev pub form_in : List Form → Data → Result Form What
form_in forms d = do
  value ← member_in (codes "do") d
  verb ← text_of value
  form ← or_fault UnknownCommand (form_named verb forms)
  known ← must UnknownField (knows_all (members_of form) d)
  Ok form

-- the command of that form, or the first fault of a field
abbrev pub command_in : {C : Type 0} → Option Naming → (List ℕ → List Field → Option C) → Form → Data → Result C What
command_in names command_of form d = do
  fields ← fields_from names [] form.fields d
  or_fault UnknownCommand (command_of form.verb fields)

abbrev pub request_of : Option Naming → Data → Result Request What
request_of names d = do
  form ← form_in (forms_by command_forms) d
  key ← key_in d
  day ← day_in d
  command ← command_in names (command_by command_forms) form d
  Ok (record { key = key; day = day; command = command })

-- the fields of a form, once they are read, are a command of its verb
abbrev pub LinesAreCommands : {C : Type 0} → List Form → (C → List ℕ) → (C → List Field)
    → (List ℕ → List Field → Option C) → Type 0
LinesAreCommands {C} forms verb_of fields_of command_of =
    (names : Option Naming) (d : Data) (form : Form) (fields : List Field) → form_in forms d ≡ Ok form
    → fields_from names [] form.fields d ≡ Ok fields
    → (c : C) × (command_in names command_of form d ≡ Ok c) × (verb_of c ≡ form.verb) × (fields_of c ≡ fields)

-- ---- reports

-- an object with `report` and without `do` asks for a report
abbrev pub is_report : Data → Bool
is_report d = is_none (get (codes "do") d) && is_some (get (codes "report") d)

-- what the report of a name is of
abbrev pub table_of : ReportName → RowKind
table_of Ledger = table.Part
table_of Stock = table.Part
table_of WhereUsed = table.Part
table_of History = table.Item
table_of Content = table.Item
table_of Shortage = table.Build

-- the table that the report is of, where there is one of its name
abbrev pub report_table : Data → Option RowKind
report_table d =
    option_map table_of (option_and_then report_named (option_and_then as_str (get (codes "report") d)))

-- a row of that table, and a number alone where the table isn't known
abbrev pub of_in : Option Naming → Option RowKind → Data → Result ℕ What
of_in names None d = number_in (codes "of") d
of_in names (Some table) d = row_in names table (codes "of") d

abbrev pub report_of : Option Naming → Data → Result Wish What
report_of names d = do
  known ← must UnknownField (knows_all (codes "of" ∷ codes "report" ∷ []) d)
  number ← of_in names (report_table d) d
  text ← text_in (codes "report") d
  name ← or_fault BadWord (report_named text)
  Ok (wish.Report name number)

-- ---- lines

abbrev pub wish_of : Option Naming → Data → Result Wish What
wish_of names d = if is_report d then report_of names d else do
  request ← request_of names d
  Ok (wish.Request request)

-- what a line asks for
abbrev pub line : Option Naming → List ℕ → Result Wish What
line names bytes = do
  d ← object_of bytes
  wish_of names d

-- the request of a line, where only requests may stand
abbrev pub request : Option Naming → List ℕ → Result Request What
request names bytes = do
  d ← object_of bytes
  request_of names d

-- ---- what names change

-- where the one reading is of a wrong type the other may read on, and else they are alike
abbrev pub AreAlike : {A : Type 0} → Result A What → Result A What → Type 0
AreAlike off on = (off ≡ Err WrongType) ⊎ (on ≡ off)

-- a line is read with names as it is without, but for what has a value of a wrong type
abbrev pub NamesChangeLittle : Type 0
NamesChangeLittle =
    (names : Naming) (bytes : List ℕ)
    → AreAlike (line None bytes) (line (Some names) bytes) × AreAlike (request None bytes) (request (Some names) bytes)
