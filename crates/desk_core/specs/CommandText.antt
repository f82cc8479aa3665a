-- Commands as text: JSON without spaces, whose members stand in byte order of their names. Every field is there.
use Rattle.std.specs.Prelude.{◌≡◌, ℕ, ◌<◌, ◌^◌, List, Option, Some, None, IfSome, [], ◌∷◌, codes}
use Rattle.serde_json.specs.Data.{Data, string, object, Members, no_members, put}
use Rattle.serde_json.specs.Written.{compact_text}
use Rattle.word_core.specs.declared.field.Field.{Field}
use Rattle.word_core.specs.declared.field.Field.TheVariants as field
use Rattle.word_core.specs.Forms.{Blanks, Form, form_named}
use Rattle.word_core.specs.FormTables.{forms_by}
use Rattle.desk_core.specs.declared.command.Command.{Command}
use Rattle.desk_core.specs.CommandForms.{command_forms, command_verb, command_fields}
use Rattle.desk_core.specs.DataOf.{data_of}

-- each field under its name: a member is put where it stands in byte order
abbrev pub with_fields : Blanks → List Field → Members → Members
with_fields [] xs members = members
with_fields (f ∷ fs) [] members = members
with_fields (f ∷ fs) (x ∷ xs) members = with_fields fs xs (put f.0 (data_of x) members)

-- a verb, and each field of its form
abbrev pub filled_data : List ℕ → List Field → Form → Data
filled_data verb fields form = object (with_fields form.fields fields (put (codes "do") (string verb) no_members))

-- of a verb that has a form, as each command's has
abbrev pub data_by : List ℕ → List Field → Option Form → Data
data_by verb fields None = object no_members
data_by verb fields (Some form) = filled_data verb fields form

abbrev pub data_in : List Form → List ℕ → List Field → Data
data_in forms verb fields = data_by verb fields (form_named verb forms)

abbrev pub text_in : List Form → List ℕ → List Field → List ℕ
text_in forms verb fields = compact_text (data_in forms verb fields)

abbrev pub command_text : Command → List ℕ
command_text c = text_in (forms_by command_forms) (command_verb c) (command_fields c)

-- ---- the numbers of a command fit 64 bits, as the program's do

abbrev pub Fits : ℕ → Type 0
Fits n = n < 2 ^ 64

abbrev pub AreFit : List ℕ → Type 0
AreFit [] = Unit {0}
AreFit (n ∷ ns) = Fits n × AreFit ns

abbrev pub FieldFits : Field → Type 0
FieldFits (field.Number n) = Fits n
FieldFits (field.MaybeNumber n) = IfSome n Fits
FieldFits (field.Numbers ns) = AreFit ns
FieldFits _ = Unit {0}

abbrev pub FieldsFit : List Field → Type 0
FieldsFit [] = Unit {0}
FieldsFit (x ∷ xs) = FieldFits x × FieldsFit xs

-- equal texts are of equal commands
abbrev pub TextsTell : {C : Type 0} → List Form → (C → List ℕ) → (C → List Field) → Type 0
TextsTell {C} forms verb_of fields_of =
    (a b : C) → FieldsFit (fields_of a) → FieldsFit (fields_of b)
    → text_in forms (verb_of a) (fields_of a) ≡ text_in forms (verb_of b) (fields_of b) → a ≡ b

abbrev pub TextsTellCommands : Type 0
TextsTellCommands = TextsTell (forms_by command_forms) command_verb command_fields
