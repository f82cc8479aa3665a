-- Forms, and fields that fill them.
use Rattle.std.specs.Prelude.{◌≡◌, ℕ, List, [], ◌∷◌, map, Bool, true, false, ◌&&◌, ◌||◌, not, codes, Option, Some}
use Rattle.std.specs.Str.{bytes_eq}
use Rattle.std.specs.Borrow.{Bor}
use Rattle.word_core.specs.Fields.{Value, field_with}
use Rattle.word_core.specs.Named.{named}
use Rattle.word_core.specs.declared.field.FieldKind.{FieldKind}
use Rattle.word_core.specs.declared.field.Field.{Field}
use Rattle.word_core.specs.declared.form.Form as code

-- a name and a kind for each field
abbrev pub Blanks : Type 0
Blanks = List (List ℕ × FieldKind)

pub record Form : Type 0 where
  pub verb : List ℕ
  pub fields : Blanks

abbrev pub shown_fields : List (Bor (List ℕ) × FieldKind) → Blanks
shown_fields fields = map (λ f. (f.0.now, f.1)) fields

-- a form of the code, without where it lies in memory
abbrev pub shown : code.Form → Form
shown form = record { verb = form.verb.now; fields = shown_fields form.fields.now }

abbrev pub shown_forms : List code.Form → List Form
shown_forms forms = map shown forms

abbrev pub form_named : List ℕ → List Form → Option Form
form_named verb forms = named (λ form. form.verb) forms verb

-- ---- what fills a form

-- the field of that kind with some value
abbrev pub IsOf : FieldKind → Field → Type 0
IsOf k x = (value : Value k) × (x ≡ field_with k value)

-- the fields are of these kinds, one by one
abbrev pub AreOf : Blanks → List Field → Type 0
AreOf [] [] = Unit {0}
AreOf [] (x ∷ xs) = ⊥
AreOf (f ∷ fs) [] = ⊥
AreOf (f ∷ fs) (x ∷ xs) = IsOf f.1 x × AreOf fs xs

-- the table has a form of this verb, and the fields are of its kinds
abbrev pub Fills : List Form → List ℕ → List Field → Type 0
Fills forms verb fields = (form : Form) × (form_named verb forms ≡ Some form) × AreOf form.fields fields

-- what was found is a command of this verb, with these fields
abbrev pub IsCommand : {C : Type 0} → (C → List ℕ) → (C → List Field) → Option C → List ℕ → List Field → Type 0
IsCommand {C} verb_of fields_of found verb fields =
    (c : C) × (found ≡ Some c) × (verb_of c ≡ verb) × (fields_of c ≡ fields)

-- ---- a table's names

abbrev pub is_among : List ℕ → List (List ℕ) → Bool
is_among name [] = false
is_among name (n ∷ ns) = bytes_eq name n || is_among name ns

-- no name stands twice
abbrev pub are_distinct : List (List ℕ) → Bool
are_distinct [] = true
are_distinct (name ∷ names) = not (is_among name names) && are_distinct names

abbrev pub names_of : Blanks → List (List ℕ)
names_of fields = map (λ f. f.0) fields

abbrev pub verbs_of : List Form → List (List ℕ)
verbs_of forms = map (λ form. form.verb) forms

-- all members that a request of this form may have
abbrev pub members_of : Form → List (List ℕ)
members_of form = codes "do" ∷ codes "key" ∷ codes "day" ∷ names_of form.fields

-- no member of any form stands twice
abbrev pub have_distinct : List Form → Bool
have_distinct [] = true
have_distinct (form ∷ forms) = are_distinct (members_of form) && have_distinct forms
