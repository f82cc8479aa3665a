-- What the joined tables of several crates find and make is what the table of one crate does.
use Rattle.std.specs.Prelude.{◌≡◌, ℕ, List, [], ◌∷◌, ◌++◌, Bool, true, false, ◌&&◌, ◌||◌, not, Option}
use Rattle.std.specs.Prelude.{Some, None, is_some, option_map, option_and_then, refl, if◌then◌else◌}
use Rattle.std.specs.Str.{bytes_eq}
use Rattle.std.proofs.Common.{sym, ap, ◌∙◌, rules, true≢false}
use Rattle.word_core.specs.declared.field.Field.{Field}
use Rattle.std.proofs.lemmas.Slice.Eq.{bytes_eq-Decides}
use Rattle.word_core.specs.Forms.{Blanks, form_named, have_distinct, are_distinct, is_among, members_of, verbs_of}
use Rattle.word_core.specs.Fields.{Value, field_with, rest, first}
use Rattle.word_core.specs.FormTables.{Makes, FormRow, made, row_named, command_by, forms_by, Tells, AllTell}
use Rattle.word_core.specs.JoinedForms.{or_else, knows, makes_within, row_within, rows_within}

-- the verb of what makes a command stands in the table
stands : {C : Type 0} (rows : List (FormRow C)) (verb : List ℕ) (fields : List Field) (c : C)
    → command_by rows verb fields ≡ Some c → is_among verb (verbs_of (forms_by rows)) ≡ true
stands [] verb fields c e = search rules
stands (row ∷ rows) verb fields c e = go (bytes_eq verb row.form.verb) e (stands rows verb fields c)
  where
    go : (b : Bool)
        → option_and_then (λ r. made r.form.fields r.make fields) (if b then Some row else row_named verb rows) ≡ Some c
        → (command_by rows verb fields ≡ Some c → is_among verb (verbs_of (forms_by rows)) ≡ true)
        → (b || is_among verb (verbs_of (forms_by rows))) ≡ true
    go true e later = refl
    go false e later = later e

module _ {C D : Type 0} (within : C → D) where
  made_within : (fs : Blanks) (make : Makes fs C) (xs : List Field)
      → made fs (makes_within within fs make) xs ≡ option_map within (made fs make xs)
  made_within [] command [] = refl
  made_within [] command (x ∷ xs) = refl
  made_within (f ∷ fs) make xs = go (first f.1 xs) (λ v. made_within fs (make v) (rest xs))
    where
      go : (o : Option (Value f.1)) → ((v : Value f.1)
          → made fs (makes_within within fs (make v)) (rest xs) ≡ option_map within (made fs (make v) (rest xs)))
          → option_and_then (λ v. made fs (makes_within within fs (make v)) (rest xs)) o
          ≡ option_map within (option_and_then (λ v. made fs (make v) (rest xs)) o)
      go None later = refl
      go (Some v) later = later v

  -- the first table that has the verb gives the form
  pub form_within : (rows : List (FormRow C)) (others : List (FormRow D)) (verb : List ℕ)
      → form_named verb (forms_by (rows_within within rows others))
      ≡ or_else (form_named verb (forms_by rows)) (form_named verb (forms_by others))
  form_within [] others verb = refl
  form_within (row ∷ rows) others verb = go (bytes_eq verb row.form.verb) (form_within rows others verb)
    where
      go : (b : Bool) → form_named verb (forms_by (rows_within within rows others))
          ≡ or_else (form_named verb (forms_by rows)) (form_named verb (forms_by others))
          → (if b then Some row.form else form_named verb (forms_by (rows_within within rows others)))
          ≡ or_else (if b then Some row.form else form_named verb (forms_by rows)) (form_named verb (forms_by others))
      go true later = refl
      go false later = later

  -- and makes the command
  pub command_within : (rows : List (FormRow C)) (others : List (FormRow D)) (verb : List ℕ) (fields : List Field)
      → command_by (rows_within within rows others) verb fields
      ≡ (if knows rows verb then option_map within (command_by rows verb fields) else command_by others verb fields)
  command_within [] others verb fields = refl
  command_within (row ∷ rows) others verb fields =
      go (bytes_eq verb row.form.verb) (made_within row.form.fields row.make fields)
      (command_within rows others verb fields)
    where
      go : (b : Bool) → made row.form.fields (makes_within within row.form.fields row.make) fields
          ≡ option_map within (made row.form.fields row.make fields)
          → command_by (rows_within within rows others) verb fields
          ≡ (if knows rows verb then option_map within (command_by rows verb fields) else command_by others verb fields)
          → option_and_then (λ r. made r.form.fields r.make fields)
          (if b then Some (row_within within row) else row_named verb (rows_within within rows others))
          ≡ (if is_some (if b then Some row.form else form_named verb (forms_by rows)) then option_map within
          (option_and_then (λ r. made r.form.fields r.make fields) (if b then Some row else row_named verb rows))
          else command_by others verb fields)
      go true here later = here
      go false here later = later

  -- of the last table
  pub only_within : (rows : List (FormRow C)) (verb : List ℕ) (fields : List Field)
      → command_by (rows_within within rows []) verb fields ≡ option_map within (command_by rows verb fields)
  only_within [] verb fields = refl
  only_within (row ∷ rows) verb fields =
      go (bytes_eq verb row.form.verb) (made_within row.form.fields row.make fields) (only_within rows verb fields)
    where
      go : (b : Bool) → made row.form.fields (makes_within within row.form.fields row.make) fields
          ≡ option_map within (made row.form.fields row.make fields)
          → command_by (rows_within within rows []) verb fields ≡ option_map within (command_by rows verb fields)
          → option_and_then (λ r. made r.form.fields r.make fields)
          (if b then Some (row_within within row) else row_named verb (rows_within within rows []))
          ≡ option_map within
          (option_and_then (λ r. made r.form.fields r.make fields) (if b then Some row else row_named verb rows))
      go true here later = here
      go false here later = later

  -- what makes a command has a form
  pub knows_its_verb : (rows : List (FormRow C)) (verb : List ℕ) (fields : List Field) (c : C)
      → command_by rows verb fields ≡ Some c → knows rows verb ≡ true
  knows_its_verb [] verb fields c e = search rules
  knows_its_verb (row ∷ rows) verb fields c e = go (bytes_eq verb row.form.verb) e (knows_its_verb rows verb fields c)
    where
      go : (b : Bool) → option_and_then (λ r. made r.form.fields r.make fields)
          (if b then Some row else row_named verb rows) ≡ Some c
          → (command_by rows verb fields ≡ Some c → knows rows verb ≡ true)
          → is_some (if b then Some row.form else form_named verb (forms_by rows)) ≡ true
      go true e later = refl
      go false e later = later e

  -- a command of this crate is made of its fields again
  pub back_here : (rows : List (FormRow C)) (others : List (FormRow D)) (verb : List ℕ) (fields : List Field) (c : C)
      → command_by rows verb fields ≡ Some c → command_by (rows_within within rows others) verb fields ≡ Some (within c)
  back_here rows others verb fields c e =
      command_within rows others verb fields ∙ rw (knows_its_verb rows verb fields c e, e) refl

  -- a verb of the others stands among all
  among : (rows : List (FormRow C)) (others : List (FormRow D)) (verb : List ℕ)
      → is_among verb (verbs_of (forms_by others)) ≡ true
      → is_among verb (verbs_of (forms_by (rows_within within rows others))) ≡ true
  among [] others verb e = e
  among (row ∷ rows) others verb e = go (bytes_eq verb row.form.verb) (among rows others verb e)
    where
      go : (b : Bool) → is_among verb (verbs_of (forms_by (rows_within within rows others))) ≡ true
          → (b || is_among verb (verbs_of (forms_by (rows_within within rows others)))) ≡ true
      go true later = refl
      go false later = later

  -- where no verb stands twice, a verb of the others isn't one of this crate
  not_here : (rows : List (FormRow C)) (others : List (FormRow D)) (verb : List ℕ)
      → are_distinct (verbs_of (forms_by (rows_within within rows others))) ≡ true
      → is_among verb (verbs_of (forms_by others)) ≡ true → knows rows verb ≡ false
  not_here [] others verb once e = refl
  not_here (row ∷ rows) others verb once e =
      go (bytes_eq verb row.form.verb) refl
      (is_among row.form.verb (verbs_of (forms_by (rows_within within rows others)))) refl once
      (λ h. not_here rows others verb h e)
    where
      go : (b : Bool) → bytes_eq verb row.form.verb ≡ b → (twice : Bool)
          → is_among row.form.verb (verbs_of (forms_by (rows_within within rows others))) ≡ twice
          → (not twice && are_distinct (verbs_of (forms_by (rows_within within rows others)))) ≡ true
          → (are_distinct (verbs_of (forms_by (rows_within within rows others))) ≡ true → knows rows verb ≡ false)
          → is_some (if b then Some row.form else form_named verb (forms_by rows)) ≡ false
      go true is true found once later = absurd (true≢false (sym once))
      go true is false found once later =
          let same : row.form.verb ≡ verb = sym ((bytes_eq-Decides verb row.form.verb).0 is) in
          absurd (true≢false
          (sym (among rows others verb e)
          ∙ ap (λ v. is_among v (verbs_of (forms_by (rows_within within rows others)))) (sym same)
          ∙ found))
      go false is true found once later = absurd (true≢false (sym once))
      go false is false found once later = later once

  -- and a command of another crate
  pub back_later : (rows : List (FormRow C)) (others : List (FormRow D)) (verb : List ℕ) (fields : List Field) (d : D)
      → are_distinct (verbs_of (forms_by (rows_within within rows others))) ≡ true
      → command_by others verb fields ≡ Some d → command_by (rows_within within rows others) verb fields ≡ Some d
  back_later rows others verb fields d once e =
      command_within rows others verb fields
      ∙ rw (not_here rows others verb once (stands others verb fields d e), e) refl

  module _ (verb_of : C → List ℕ) (fields_of : C → List Field) (all_verb_of : D → List ℕ)
      (all_fields_of : D → List Field)
      (same_verb : (c : C) → all_verb_of (within c) ≡ verb_of c)
      (same_fields : (c : C) → all_fields_of (within c) ≡ fields_of c) where
    tells_within : (verb : List ℕ) (fs : Blanks) (make : Makes fs C) (front : List Field)
        → Tells verb_of fields_of verb fs make front
        → Tells all_verb_of all_fields_of verb fs (makes_within within fs make) front
    tells_within verb [] command front t = (same_verb command ∙ t.0, same_fields command ∙ t.1)
    tells_within verb (f ∷ fs) make front t =
        λ value. tells_within verb fs (make value) (front ++ field_with f.1 value ∷ []) (t value)

    pub told_within : (rows : List (FormRow C)) (others : List (FormRow D)) → AllTell verb_of fields_of rows
        → AllTell all_verb_of all_fields_of others → AllTell all_verb_of all_fields_of (rows_within within rows others)
    told_within [] others t u = u
    told_within (row ∷ rows) others t u =
        (tells_within row.form.verb row.form.fields row.make [] t.0, told_within rows others t.1 u)

  pub distinct_within : (rows : List (FormRow C)) (others : List (FormRow D)) → have_distinct (forms_by rows) ≡ true
      → have_distinct (forms_by others) ≡ true → have_distinct (forms_by (rows_within within rows others)) ≡ true
  distinct_within [] others e f = f
  distinct_within (row ∷ rows) others e f =
      go (are_distinct (members_of row.form)) e (λ e. distinct_within rows others e f)
    where
      go : (b : Bool) → (b && have_distinct (forms_by rows)) ≡ true
          → (have_distinct (forms_by rows) ≡ true → have_distinct (forms_by (rows_within within rows others)) ≡ true)
          → (b && have_distinct (forms_by (rows_within within rows others))) ≡ true
      go true e later = later e
      go false e later = search rules
