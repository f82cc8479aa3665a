-- Tables of forms, each with the command that its values make.
use Rattle.std.specs.Prelude.{◌≡◌, ℕ, List, [], ◌∷◌, ◌++◌, map, Option, Some, option_and_then}
use Rattle.word_core.specs.declared.field.Field.{Field}
use Rattle.word_core.specs.Named.{named}
use Rattle.word_core.specs.Forms.{Blanks, Form}
use Rattle.word_core.specs.Fields.{Value, field_with, first, rest, end}

-- a command, once there is a value for each field
abbrev pub Makes : Blanks → Type 0 → Type 0
Makes [] C = C
Makes (f ∷ fs) C = Value f.1 → Makes fs C

-- a form, and the command that its values make
pub record FormRow (C : Type 0) : Type 0 where
  pub form : Form
  pub make : Makes form.fields C

-- the command that these fields make
abbrev pub made : {C : Type 0} (fs : Blanks) → Makes fs C → List Field → Option C
made [] command fields = option_and_then (λ _. Some command) (end fields)
made (f ∷ fs) make fields = option_and_then (λ value. made fs (make value) (rest fields)) (first f.1 fields)

abbrev pub row_named : {C : Type 0} → List ℕ → List (FormRow C) → Option (FormRow C)
row_named verb rows = named (λ row. row.form.verb) rows verb

-- the command that a verb and fields make
abbrev pub command_by : {C : Type 0} → List (FormRow C) → List ℕ → List Field → Option C
command_by rows verb fields = option_and_then (λ row. made row.form.fields row.make fields) (row_named verb rows)

abbrev pub forms_by : {C : Type 0} → List (FormRow C) → List Form
forms_by rows = map (λ row. row.form) rows

-- whatever the values are, the command that they make is of this verb and has them as its fields
abbrev pub Tells : {C : Type 0} → (C → List ℕ) → (C → List Field) → List ℕ → (fs : Blanks) → Makes fs C
    → List Field → Type 0
Tells verb_of fields_of verb [] command front = (verb_of command ≡ verb) × (fields_of command ≡ front)
Tells verb_of fields_of verb (f ∷ fs) make front =
    (value : Value f.1) → Tells verb_of fields_of verb fs (make value) (front ++ field_with f.1 value ∷ [])

abbrev pub AllTell : {C : Type 0} → (C → List ℕ) → (C → List Field) → List (FormRow C) → Type 0
AllTell verb_of fields_of [] = Unit {0}
AllTell verb_of fields_of (row ∷ rows) =
    Tells verb_of fields_of row.form.verb row.form.fields row.make [] × AllTell verb_of fields_of rows
