-- The tables of several crates as one: the commands of each within one type of all commands.
use Rattle.std.specs.Prelude.{ℕ, List, [], ◌∷◌, Bool, Option, Some, None, is_some}
use Rattle.word_core.specs.Forms.{Blanks, form_named}
use Rattle.word_core.specs.FormTables.{Makes, FormRow, forms_by}

abbrev pub or_else : {A : Type 0} → Option A → Option A → Option A
or_else None y = y
or_else (Some x) y = Some x

-- whether a verb is of these rows
abbrev pub knows : {C : Type 0} → List (FormRow C) → List ℕ → Bool
knows rows verb = is_some (form_named verb (forms_by rows))

-- what is made, within the type of all commands
abbrev pub makes_within : {C D : Type 0} → (C → D) → (fs : Blanks) → Makes fs C → Makes fs D
makes_within within [] command = within command
makes_within within (f ∷ fs) make = λ value. makes_within within fs (make value)

abbrev pub row_within : {C D : Type 0} → (C → D) → FormRow C → FormRow D
row_within within row = record { form = row.form; make = makes_within within row.form.fields row.make }

-- a crate's rows, before those of other crates
abbrev pub rows_within : {C D : Type 0} → (C → D) → List (FormRow C) → List (FormRow D) → List (FormRow D)
rows_within within [] others = others
rows_within within (row ∷ rows) others = row_within within row ∷ rows_within within rows others
