-- Names change how a line is read only where a value is of a wrong type.
use Rattle.std.proofs.Common.{◌≡◌, inl, inr, ℕ, List, [], ◌∷◌, ◌++◌, Bool, true, false, refl, ap, sym, subst}
use Rattle.std.specs.Prelude.{Option, Some, None, Result, Ok, Err, codes, if◌then◌else◌}
use Rattle.serde_json.specs.Data.{Data, null, boolean, number, string, array, object, Items, no_items, item}
use Rattle.serde_json.specs.Find.{as_array}
use Rattle.word_core.specs.declared.field.Field.{Field}
use Rattle.word_core.specs.declared.field.Field.TheVariants as field
use Rattle.word_core.specs.declared.field.FieldKind.{FieldKind}
use Rattle.word_core.specs.declared.field.FieldKind.TheVariants as kind
use Rattle.word_core.specs.declared.field.RowKind.{RowKind}
use Rattle.part_core.specs.declared.found.Found.TheVariants.{One}
use Rattle.word_core.specs.Forms.{Blanks, Form}
use Rattle.word_core.specs.FormTables.{command_by, forms_by}
use Rattle.desk_core.specs.CommandForms.{command_forms}
use Rattle.desk_core.specs.Naming.{Naming}
use Rattle.desk_wire.specs.declared.fault.What.{What}
use Rattle.desk_wire.specs.declared.fault.What.TheVariants.{WrongType, UnknownField, BadWord}
use Rattle.desk_wire.specs.Steps.{◌>>=◌, or_fault, maybe, must}
use Rattle.desk_wire.specs.Values.{given, member_in, number_of}
use Rattle.desk_wire.specs.RowNames.{one_row, row_of}
use Rattle.desk_wire.specs.Fields.{as_field, field_in, fields_from, row_in, maybe_row_in, with_rows, rows_in}
use Rattle.desk_wire.specs.Reading.{AreAlike, NamesChangeLittle, command_in, is_report, object_of, of_in}
use Rattle.desk_wire.specs.Reading.{form_in, report_of, report_table, request, request_of, wish_of}
use Rattle.desk_wire.specs.Fields.{key_in, day_in}
use Rattle.desk_wire.specs.Members.{knows_all}
use Rattle.desk_wire.specs.Values.{text_in}
use Rattle.desk_wire.specs.declared.read.Wish.{Wish}
use Rattle.desk_wire.specs.declared.read.Wish.TheVariants as wish
use Rattle.desk_core.specs.declared.command.Request.{Request}
use Rattle.report_core.specs.Names.{report_named}

-- ---- steps

pub same : {A : Type 0} (r : Result A What) → AreAlike r r
same r = inr refl

pub later : {A B : Type 0} (r : Result A What) (f g : A → Result B What) → ((x : A) → AreAlike (f x) (g x))
    → AreAlike (r >>= f) (r >>= g)
later (Ok x) f g h = h x
later (Err what) f g h = inr refl

pub both : {A B : Type 0} (off on : Result A What) (f g : A → Result B What) → AreAlike off on
    → ((x : A) → AreAlike (f x) (g x)) → AreAlike (off >>= f) (on >>= g)
both off on f g (inl wrong) h = inl (ap (λ r. r >>= f) wrong)
both off on f g (inr e) h = subst (λ r. AreAlike (off >>= f) (r >>= g)) (sym e) (later off f g h)

-- ---- fields

-- a number is the same row by its number
found_number : (name : List ℕ) (r : Result ℕ What) → ((r >>= (λ n. Ok (One n))) >>= one_row name) ≡ r
found_number name (Ok n) = refl
found_number name (Err what) = refl

row_alike : (names : Naming) (table : RowKind) (name : List ℕ) (value : Data)
    → AreAlike (row_of None table name value) (row_of (Some names) table name value)
row_alike names table name null = inr refl
row_alike names table name (boolean b) = inr refl
row_alike names table name (number n) = inr (found_number name (number_of (number n)))
row_alike names table name (string s) = inl refl
row_alike names table name (array ds) = inl refl
row_alike names table name (object ms) = inl refl

maybe_alike : (names : Naming) (table : RowKind) (name : List ℕ) (o : Option Data)
    → AreAlike (maybe (row_of None table name) o) (maybe (row_of (Some names) table name) o)
maybe_alike names table name None = inr refl
maybe_alike names table name (Some value) =
    both (row_of None table name value) (row_of (Some names) table name value) (λ y. Ok (Some y)) (λ y. Ok (Some y))
    (row_alike names table name value) (λ y. inr refl)

with_rows_alike : (names : Naming) (table : RowKind) (name numbers : List ℕ) (ds : Items)
    → AreAlike (with_rows None table name numbers ds) (with_rows (Some names) table name numbers ds)
with_rows_alike names table name numbers no_items = inr refl
with_rows_alike names table name numbers (item d ds) =
    both (row_of None table name d) (row_of (Some names) table name d)
    (λ n. with_rows None table name (numbers ++ n ∷ []) ds) (λ n. with_rows (Some names) table name (numbers ++ n ∷ []) ds)
    (row_alike names table name d) (λ n. with_rows_alike names table name (numbers ++ n ∷ []) ds)

row_in_alike : (names : Naming) (table : RowKind) (name : List ℕ) (d : Data)
    → AreAlike (row_in None table name d) (row_in (Some names) table name d)
row_in_alike names table name d =
    later (member_in name d) (row_of None table name) (row_of (Some names) table name) (row_alike names table name)

rows_in_alike : (names : Naming) (table : RowKind) (name : List ℕ) (d : Data)
    → AreAlike (rows_in None table name d) (rows_in (Some names) table name d)
rows_in_alike names table name d =
    later (member_in name d) (λ value. or_fault WrongType (as_array value) >>= with_rows None table name [])
    (λ value. or_fault WrongType (as_array value) >>= with_rows (Some names) table name [])
    (λ value. later (or_fault WrongType (as_array value)) (with_rows None table name [])
    (with_rows (Some names) table name []) (with_rows_alike names table name []))

as_field_alike : {A : Type 0} (make : A → Field) (off on : Result A What) → AreAlike off on
    → AreAlike (as_field make off) (as_field make on)
as_field_alike make off on h = both off on (λ v. Ok (make v)) (λ v. Ok (make v)) h (λ v. inr refl)

field_alike : (names : Naming) (name : List ℕ) (k : FieldKind) (d : Data)
    → AreAlike (field_in None name k d) (field_in (Some names) name k d)
field_alike names name (kind.Row table) d =
    as_field_alike field.Number (row_in None table name d) (row_in (Some names) table name d)
    (row_in_alike names table name d)
field_alike names name (kind.MaybeRow table) d =
    as_field_alike field.MaybeNumber (maybe_row_in None table name d) (maybe_row_in (Some names) table name d)
    (maybe_alike names table name (given name d))
field_alike names name (kind.Rows table) d =
    as_field_alike field.Numbers (rows_in None table name d) (rows_in (Some names) table name d)
    (rows_in_alike names table name d)
field_alike names name kind.Number d = inr refl
field_alike names name kind.Text d = inr refl
field_alike names name kind.MaybeText d = inr refl
field_alike names name kind.Yes d = inr refl
field_alike names name kind.Flags d = inr refl
field_alike names name kind.Status d = inr refl
field_alike names name kind.Side d = inr refl
field_alike names name kind.Serials d = inr refl
field_alike names name kind.MaybeSerials d = inr refl

fields_alike : (names : Naming) (front : List Field) (fs : Blanks) (d : Data)
    → AreAlike (fields_from None front fs d) (fields_from (Some names) front fs d)
fields_alike names front [] d = inr refl
fields_alike names front (f ∷ fs) d =
    both (field_in None f.0 f.1 d) (field_in (Some names) f.0 f.1 d) (λ x. fields_from None (front ++ x ∷ []) fs d)
    (λ x. fields_from (Some names) (front ++ x ∷ []) fs d) (field_alike names f.0 f.1 d)
    (λ x. fields_alike names (front ++ x ∷ []) fs d)

-- ---- lines

command_alike : {C : Type 0} (names : Naming) (command_of : List ℕ → List Field → Option C) (form : Form) (d : Data)
    → AreAlike (command_in None command_of form d) (command_in (Some names) command_of form d)
command_alike names command_of form d =
    both (fields_from None [] form.fields d) (fields_from (Some names) [] form.fields d) _ _
    (fields_alike names [] form.fields d) (λ xs. inr refl)

request_alike : (names : Naming) (d : Data) → AreAlike (request_of None d) (request_of (Some names) d)
request_alike names d =
    later (form_in (forms_by command_forms) d) _ _
    (λ form. later (key_in d) _ _
    (λ key. later (day_in d) _ _
    (λ day. both (command_in None (command_by command_forms) form d)
    (command_in (Some names) (command_by command_forms) form d)
    (λ command. Ok (record { key = key; day = day; command = command }))
    (λ command. Ok (record { key = key; day = day; command = command }))
    (command_alike names (command_by command_forms) form d) (λ command. inr refl))))

of_alike : (names : Naming) (table : Option RowKind) (d : Data) → AreAlike (of_in None table d) (of_in (Some names) table d)
of_alike names None d = inr refl
of_alike names (Some table) d = row_in_alike names table (codes "of") d

abbrev with_name : Data → ℕ → Result Wish What
with_name d n = do
  text ← text_in (codes "report") d
  name ← or_fault BadWord (report_named text)
  Ok (wish.Report name n)

report_alike : (names : Naming) (d : Data) → AreAlike (report_of None d) (report_of (Some names) d)
report_alike names d =
    later (must UnknownField (knows_all (codes "of" ∷ codes "report" ∷ []) d))
    (λ known. of_in None (report_table d) d >>= with_name d) (λ known. of_in (Some names) (report_table d) d >>= with_name d)
    (λ known. both (of_in None (report_table d) d) (of_in (Some names) (report_table d) d) (with_name d) (with_name d)
    (of_alike names (report_table d) d) (λ n. inr refl))

chosen : {A : Type 0} (b : Bool) (p q r s : Result A What) → AreAlike p q → AreAlike r s
    → AreAlike (if b then p else r) (if b then q else s)
chosen true p q r s h i = h
chosen false p q r s h i = i

abbrev as_wish : Result Request What → Result Wish What
as_wish reading = do
  request ← reading
  Ok (wish.Request request)

wish_alike : (names : Naming) (d : Data) → AreAlike (wish_of None d) (wish_of (Some names) d)
wish_alike names d =
    chosen (is_report d) (report_of None d) (report_of (Some names) d) (as_wish (request_of None d))
    (as_wish (request_of (Some names) d)) (report_alike names d)
    (both (request_of None d) (request_of (Some names) d) (λ r. Ok (wish.Request r)) (λ r. Ok (wish.Request r))
    (request_alike names d) (λ request. inr refl))

pub names_change_little : NamesChangeLittle
names_change_little names bytes = (
  later (object_of bytes) (wish_of None) (wish_of (Some names)) (wish_alike names),
  later (object_of bytes) (request_of None) (request_of (Some names)) (request_alike names),
)
