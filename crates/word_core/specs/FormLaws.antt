-- What fills a form of a table makes a command, and what makes a command fills a form.
use Rattle.std.specs.Prelude.{◌≡◌, ℕ, List, [], ◌∷◌, ◌++◌, Bool, true, false, Option}
use Rattle.std.specs.Prelude.{Some, None, option_and_then, unwrap_or, refl, if◌then◌else◌}
use Rattle.std.specs.Str.{bytes_eq}
use Rattle.std.proofs.Common.{sym, ap, ◌∙◌, subst, append_assoc}
use Rattle.std.proofs.lemmas.List.{append-nil}
use Rattle.std.proofs.lemmas.Slice.Eq.{bytes_eq-Decides}
use Rattle.word_core.specs.declared.field.FieldKind.{FieldKind}
use Rattle.word_core.specs.declared.field.FieldKind.TheVariants as kind
use Rattle.word_core.specs.declared.field.Field.{Field}
use Rattle.word_core.specs.declared.field.Field.TheVariants as field
use Rattle.word_core.specs.Forms.{Blanks, Form, form_named, IsOf, AreOf, Fills, IsCommand}
use Rattle.word_core.specs.Fields.{Value, field_with, value_of}
use Rattle.word_core.specs.FormTables.{Makes, FormRow, made, row_named, command_by, forms_by, Tells, AllTell}

abbrev IsNone : {A : Type 0} → Option A → Type 0
IsNone None = Unit {0}
IsNone (Some x) = ⊥

none_apart : {A : Type 0} (x : A) → None ≡ Some x → ⊥
none_apart {A} x e = subst (λ (o : Option A). IsNone o) e tt

-- ---- one field

kind_told : (k : FieldKind) (x : Field) (v : Value k) → value_of k x ≡ Some v → IsOf k x
kind_told kind.Number (field.Number n) v e = (n, refl)
kind_told (kind.Row r) (field.Number n) v e = (n, refl)
kind_told (kind.MaybeRow r) (field.MaybeNumber n) v e = (n, refl)
kind_told kind.Text (field.Text n) v e = (n, refl)
kind_told kind.MaybeText (field.MaybeText n) v e = (n, refl)
kind_told kind.Yes (field.Yes n) v e = (n, refl)
kind_told kind.Flags (field.Flags n) v e = (n, refl)
kind_told kind.Status (field.Status n) v e = (n, refl)
kind_told kind.Side (field.Side n) v e = (n, refl)
kind_told kind.Serials (field.Serials n) v e = (n, refl)
kind_told kind.MaybeSerials (field.MaybeSerials n) v e = (n, refl)
kind_told (kind.Rows r) (field.Numbers n) v e = (n, refl)
kind_told k x v e = absurd (none_apart v e)

own_value : (k : FieldKind) (v : Value k) → value_of k (field_with k v) ≡ Some v
own_value kind.Number v = refl
own_value (kind.Row r) v = refl
own_value (kind.MaybeRow r) v = refl
own_value kind.Text v = refl
own_value kind.MaybeText v = refl
own_value kind.Yes v = refl
own_value kind.Flags v = refl
own_value kind.Status v = refl
own_value kind.Side v = refl
own_value kind.Serials v = refl
own_value kind.MaybeSerials v = refl
own_value (kind.Rows r) v = refl

abbrev Stands : (k : FieldKind) → Field → Type 0
Stands k x = (v : Value k) × (value_of k x ≡ Some v) × (field_with k v ≡ x)

value_told : (k : FieldKind) (x : Field) → IsOf k x → Stands k x
value_told k x h = (h.0, ap (value_of k) h.1 ∙ own_value k h.0, sym h.1)

-- ---- a table

module _ {C : Type 0} where
  made_fills : (fs : Blanks) (make : Makes fs C) (xs : List Field) (c : C) → made fs make xs ≡ Some c → AreOf fs xs
  made_fills [] make [] c e = tt
  made_fills [] make (x ∷ xs) c e = absurd (none_apart c e)
  made_fills (f ∷ fs) make [] c e = absurd (none_apart c e)
  made_fills (f ∷ fs) make (x ∷ xs) c e = go (value_of f.1 x) refl e (λ v. made_fills fs (make v) xs c)
    where
      go : (o : Option (Value f.1)) → value_of f.1 x ≡ o → option_and_then (λ v. made fs (make v) xs) o ≡ Some c
          → ((v : Value f.1) → made fs (make v) xs ≡ Some c → AreOf fs xs) → IsOf f.1 x × AreOf fs xs
      go None is e later = absurd (none_apart c e)
      go (Some v) is e later = (kind_told f.1 x v is, later v e)

  -- fields that make a command fill the form of its verb
  pub rows_fill : (rows : List (FormRow C)) (verb : List ℕ) (fields : List Field) (c : C)
      → command_by rows verb fields ≡ Some c → Fills (forms_by rows) verb fields
  rows_fill [] verb fields c e = absurd (none_apart c e)
  rows_fill (row ∷ rows) verb fields c e = go (bytes_eq verb row.form.verb) e (rows_fill rows verb fields c)
    where
      go : (b : Bool) → option_and_then (λ r. made r.form.fields r.make fields)
          (if b then Some row else row_named verb rows) ≡ Some c
          → (command_by rows verb fields ≡ Some c → Fills (forms_by rows) verb fields)
          → (form : Form) × ((if b then Some row.form else form_named verb (forms_by rows)) ≡ Some form)
          × AreOf form.fields fields
      go true e later = (row.form, refl, made_fills row.form.fields row.make fields c e)
      go false e later = later e

  module _ (verb_of : C → List ℕ) (fields_of : C → List Field) where
    tells_made : (verb : List ℕ) (fs : Blanks) (make : Makes fs C) (front xs : List Field)
        → Tells verb_of fields_of verb fs make front → AreOf fs xs
        → IsCommand verb_of fields_of (made fs make xs) verb (front ++ xs)
    tells_made verb [] make front [] t a = (make, refl, t.0, t.1 ∙ sym (append-nil front))
    tells_made verb [] make front (x ∷ xs) t a = absurd a
    tells_made verb (f ∷ fs) make front [] t a = absurd a
    tells_made verb (f ∷ fs) make front (x ∷ xs) t a =
        let s = value_told f.1 x a.0 in
        let h = tells_made verb fs (make s.0) (front ++ field_with f.1 s.0 ∷ []) xs (t s.0) a.1 in
        let fields = h.3 ∙ append_assoc front (field_with f.1 s.0 ∷ []) xs ∙ ap (λ y. front ++ y ∷ xs) s.2 in
        let found = ap (option_and_then (λ v. made fs (make v) xs)) s.1 ∙ h.1 in
        (h.0, found, h.2, fields)

    -- what fills a form of the table is a command of that verb, with those fields
    pub rows_made : (rows : List (FormRow C)) → AllTell verb_of fields_of rows → (verb : List ℕ) (fields : List Field)
        → Fills (forms_by rows) verb fields → IsCommand verb_of fields_of (command_by rows verb fields) verb fields
    rows_made [] t verb fields h = absurd (none_apart h.0 h.1)
    rows_made (row ∷ rows) t verb fields h =
        go (bytes_eq verb row.form.verb) refl h.1 (λ e. rows_made rows t.1 verb fields (h.0, e, h.2))
      where
        go : (b : Bool) → bytes_eq verb row.form.verb ≡ b
            → (if b then Some row.form else form_named verb (forms_by rows)) ≡ Some h.0
            → (form_named verb (forms_by rows) ≡ Some h.0
            → IsCommand verb_of fields_of (command_by rows verb fields) verb fields)
            → IsCommand verb_of fields_of
            (option_and_then (λ r. made r.form.fields r.make fields) (if b then Some row else row_named verb rows))
            verb fields
        go true is e later =
            let same : row.form ≡ h.0 = ap (λ (form : Option Form). unwrap_or form row.form) e in
            let of : AreOf row.form.fields fields = subst (λ (form : Form). AreOf form.fields fields) (sym same) h.2 in
            let m = tells_made row.form.verb row.form.fields row.make [] fields t.0 of in
            (m.0, m.1, m.2 ∙ sym ((bytes_eq-Decides verb row.form.verb).0 is), m.3)
        go false is e later = later e
