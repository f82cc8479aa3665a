-- The text that a sheet is, line by line.
use Rattle.std.proofs.Common.{◌≡◌, ◌∙◌, ◌⊎◌, ◌++◌, ◌+◌, ℕ, List, [], ◌∷◌, Bool, true, false, cond, map, codes, refl, sym, ap, subst, inl, inr}
use Rattle.std.proofs.Common.{append_assoc, append-nil, length, drop}
use Rattle.std.specs.Prelude.{Option, Some, None, Result, Ok, Err, IsSome, nat_le, option_map, option_and_then, not}
use Rattle.std.specs.List.{list_all}
use Rattle.std.specs.Str.{bytes_eq}
use Rattle.std.proofs.lemmas.Bool.{and_from, and_parts}
use Rattle.csv.specs.Reading.{records, strip_bom}
use Rattle.serde_json.specs.Written.{compact_text}
use Rattle.word_core.specs.Day.{day_text}
use Rattle.word_core.specs.Forms.{Blanks, Form, are_distinct, form_named, have_distinct, is_among, members_of, names_of}
use Rattle.word_core.specs.FormTables.{forms_by}
use Rattle.desk_core.specs.CommandForms.{command_forms, command_distinct}
use Rattle.desk_core.specs.Naming.{Naming}
use Rattle.desk_wire.specs.declared.fault.What.{What}
use Rattle.desk_wire.specs.declared.fault.What.TheVariants.{Csv, TooLong}
use Rattle.desk_wire.specs.declared.read.Wish.{Wish}
use Rattle.desk_wire.specs.declared.read.Wish.TheVariants.{Request, Report}
use Rattle.desk_wire.specs.Imports.{separators}
use Rattle.desk_wire.specs.Quotes.{open_record}
use Rattle.desk_wire.specs.Reading as reading
use Rattle.desk_wire.specs.Records.{Fields, are_texts, config_by}
use Rattle.desk_wire.specs.SheetForms.{has_own_files, sheet_form}
use Rattle.desk_wire.specs.SheetLaws.{AreKeyed, AreLinesOf, AsksUnder, IsKeyed, LinesOfSheet, SheetsAreLines, SheetsAskUnderKeys}
use Rattle.desk_wire.specs.SheetLaws.{ended, is_one_line}
use Rattle.desk_wire.specs.Sheets.{FieldPlace, Place, Sayings, Sheet, SheetColumns, columns_with, field_places, first_columns, has_column}
use Rattle.desk_wire.specs.Sheets.{is_closed, is_left_out, key_of, layout_by, line_data, line_of, may_lack, place_of, said_of}
use Rattle.desk_wire.specs.Sheets.{sheet_columns, text_by, text_from, with_column}
use Rattle.desk_wire.specs.Steps.{◌>>=◌, at, must}
use Rattle.desk_wire.proofs.OneLine.{one_line}
use Rattle.desk_wire.proofs.FirstLayouts.{layout-first}
use Rattle.desk_wire.proofs.SheetReads.{line_fits, lines_ask_under_keys}

-- ---- steps that went well

bound : {A B E : Type 0} (r : Result A E) (f : A → Result B E) (b : B) → (r >>= f) ≡ Ok b → (a : A) × (r ≡ Ok a) × (f a ≡ Ok b)
bound (Ok a) f b e = (a, refl, e)
bound (Err x) f b e = absurd (cc)

went : {A : Type 0} (n : ℕ) (r : Result A What) (a : A) → at n r ≡ Ok a → r ≡ Ok a
went n (Ok x) a e = let same : x ≡ a = cc in ap Ok same
went n (Err what) a e = absurd (cc)

-- ---- one line

-- nothing is filled in, or it is the line of its members
line_cases : (verb document told : List ℕ) (columns : SheetColumns) (unclosed : Option ℕ) (n : ℕ) (fields : Fields)
    (l : List ℕ) → line_of verb document told columns unclosed n fields ≡ Ok l
    → l ≡ cond (is_left_out columns fields) [] (compact_text (line_data verb document told columns n fields))
line_cases verb document told columns unclosed n fields l e =
    let whole = cond (is_left_out columns fields) [] (compact_text (line_data verb document told columns n fields)) in
    let last : Result (List ℕ) What = Ok whole in
    let (texts, a, e1) =
    bound (must Csv (are_texts fields))
    (λ texts. must Csv (is_closed unclosed n) >>= (λ closed. must Csv (nat_le (length fields) columns.width) >>= (λ fits. last))) l e in
    let (closed, b, e2) =
    bound (must Csv (is_closed unclosed n)) (λ closed. must Csv (nat_le (length fields) columns.width) >>= (λ fits. last)) l e1 in
    let (fits, c, e3) = bound (must Csv (nat_le (length fields) columns.width)) (λ fits. last) l e2 in
    let same : whole ≡ l = cc in
    sym same

line_is_one : (verb document told : List ℕ) (columns : SheetColumns) (n : ℕ) (fields : Fields) (c : Bool)
    → is_one_line (cond c [] (compact_text (line_data verb document told columns n fields))) ≡ true
line_is_one verb document told columns n fields true = refl
line_is_one verb document told columns n fields false =
    one_line (line_data verb document told columns n fields) (line_fits verb document told columns n fields)

-- ---- all lines

lines_from : (line : ℕ → Fields → Result (List ℕ) What)
    → ((n : ℕ) (fields : Fields) (l : List ℕ) → line n fields ≡ Ok l → is_one_line l ≡ true)
    → (n : ℕ) (front text : List ℕ) (rs : List Fields) → text_from line n front rs ≡ Ok text
    → (ls : List (List ℕ)) × AreLinesOf line n rs ls × (text ≡ front ++ ended ls)
lines_from line one n front text [] e =
    let same : front ≡ text = cc in ([], tt, sym same ∙ sym (append-nil front))
lines_from line one n front text (r ∷ rs) e =
    let (l, read, rest) = bound (at n (line n r)) (λ l. text_from line (n + 1) (front ++ l ++ 10 ∷ []) rs) text e in
    let is = went n (line n r) l read in
    let (ls, are, whole) = lines_from line one (n + 1) (front ++ l ++ 10 ∷ []) text rs rest in (
      l ∷ ls,
      (is, one n r l is, are),
      whole ∙ append_assoc (front ++ l) (10 ∷ []) (ended ls) ∙ append_assoc front l (10 ∷ ended ls),
    )

below : (sheet : Sheet) (bytes text : List ℕ) (o : Option (ℕ × SheetColumns))
    → layout_by sheet.form sheet.said (strip_bom bytes) separators ≡ o
    → text_by sheet.form.verb sheet.document (day_text sheet.day) (strip_bom bytes) o ≡ Ok text
    → LinesOfSheet sheet bytes text
below sheet bytes text None is e = absurd (cc)
below sheet bytes text (Some (separator, columns)) is e =
    let whole = strip_bom bytes in
    let unclosed = open_record (config_by separator) whole in
    let line = line_of sheet.form.verb sheet.document (day_text sheet.day) columns unclosed in
    let rs = drop 1 (records (config_by separator) whole) in
    let (closed, fine, rest) =
    bound (at 1 (must Csv (is_closed unclosed 1))) (λ closed. text_from line 2 (10 ∷ []) rs) text e in
    let (ls, are, told) =
    lines_from line
    (λ n fields l one. subst (λ v. is_one_line v ≡ true)
    (sym (line_cases sheet.form.verb sheet.document (day_text sheet.day) columns unclosed n fields l one))
    (line_is_one sheet.form.verb sheet.document (day_text sheet.day) columns n fields (is_left_out columns fields)))
    2 (10 ∷ []) text rs rest in
    record { separator = separator; columns = columns; lines = ls; layout = is; each = are; whole = told }

pub sheets_are_lines : SheetsAreLines
sheets_are_lines sheet bytes text e =
    let (fits, within, rest) =
    bound (at 0 (must TooLong (nat_le (length bytes) 16777216)))
    (λ fits. text_by sheet.form.verb sheet.document (day_text sheet.day) (strip_bom bytes)
    (layout_by sheet.form sheet.said (strip_bom bytes) separators)) text e in
    below sheet bytes text (layout_by sheet.form sheet.said (strip_bom bytes) separators) refl rest

-- ---- the names of a form's fields

and_then_some : {A B : Type 0} (f : A → Option B) (o : Option A) (b : B) → option_and_then f o ≡ Some b
    → (a : A) × (o ≡ Some a) × (f a ≡ Some b)
and_then_some f None b e = absurd (cc)
and_then_some f (Some a) b e = (a, refl, e)

map_some : {A B : Type 0} (f : A → B) (o : Option A) (b : B) → option_map f o ≡ Some b → (a : A) × (o ≡ Some a) × (f a ≡ b)
map_some f None b e = absurd (cc)
map_some f (Some a) b e = let same : f a ≡ b = cc in (a, refl, same)

names_kept : (said : Sayings) (fs : Blanks) (header : Fields) (places : List FieldPlace)
    → field_places said fs header ≡ Some places → map (λ f. f.name) places ≡ names_of fs
names_kept said [] header places e = let same : [] ≡ places = cc in ap (map (λ (f : FieldPlace). f.name)) (sym same)
names_kept said (f ∷ fs) header places e =
    let placed : Place → FieldPlace = λ place. record { name = f.0; kind = f.1; place = place } in
    let (place, there, rest) =
    and_then_some (λ place. option_map (λ places. placed place ∷ places) (field_places said fs header))
    (place_of (said_of said f.0) (may_lack f.1) f.0 header) places e in
    let (others, found, same) = map_some (λ places. placed place ∷ places) (field_places said fs header) places rest in
    ap (map (λ (f : FieldPlace). f.name)) (sym same)
    ∙ ap (λ names. f.0 ∷ names) (names_kept said fs header others found)

with_fields : (width : ℕ) (fields : List FieldPlace) (n k d : Option Place) (columns : SheetColumns)
    → columns_with width fields n k d ≡ Some columns → columns.fields ≡ fields
with_fields width fields None k d columns e = absurd (cc)
with_fields width fields (Some n) None d columns e = absurd (cc)
with_fields width fields (Some n) (Some k) None columns e = absurd (cc)
with_fields width fields (Some n) (Some k) (Some d) columns e =
    let made : SheetColumns = record { fields = fields; number = n; key = k; day = d; width = width } in
    let same : made ≡ columns = cc in
    ap (λ (c : SheetColumns). c.fields) (sym same)

same_fields : (fields others : List FieldPlace) → with_column fields ≡ Some others → fields ≡ others
same_fields fields others e = by (has_column fields) e
  where
    by : (c : Bool) → cond c (Some fields) None ≡ Some others → fields ≡ others
    by true e = cc
    by false e = absurd (cc)

columns_named : (form : Form) (said : Sayings) (header : Fields) (columns : SheetColumns)
    → sheet_columns form said header ≡ Some columns → map (λ f. f.name) columns.fields ≡ names_of form.fields
columns_named form said header columns e = by (are_texts header) e
  where
    make : List FieldPlace → Option SheetColumns
    make fields =
        columns_with (length header) fields (place_of (said_of said (codes "number")) true (codes "number") header)
        (place_of (said_of said (codes "key")) true (codes "key") header)
        (place_of (said_of said (codes "day")) true (codes "day") header)

    by : (c : Bool)
        → cond c (option_and_then make (option_and_then with_column (field_places said form.fields header))) None
        ≡ Some columns
        → map (λ f. f.name) columns.fields ≡ names_of form.fields
    by false e = absurd (cc)
    by true e =
        let (fields, some, made) =
        and_then_some make (option_and_then with_column (field_places said form.fields header)) columns e in
        let (places, found, one) = and_then_some with_column (field_places said form.fields header) fields some in
        ap (map (λ (f : FieldPlace). f.name))
        (with_fields (length header) fields (place_of (said_of said (codes "number")) true (codes "number") header)
        (place_of (said_of said (codes "key")) true (codes "key") header)
        (place_of (said_of said (codes "day")) true (codes "day") header) columns made
        ∙ sym (same_fields places fields one))
        ∙ names_kept said form.fields header places found

first_named : (form : Form) (said : Sayings) (rs : List Fields) (columns : SheetColumns)
    → first_columns form said rs ≡ Some columns → map (λ f. f.name) columns.fields ≡ names_of form.fields
first_named form said [] columns e = absurd (cc)
first_named form said (r ∷ rs) columns e = columns_named form said r columns e

-- ---- no form has a field named `do` or `key`

not_true : (c : Bool) → not c ≡ true → c ≡ false
not_true true e = sym e
not_true false e = refl

one_distinct : (forms : List Form) (verb : List ℕ) (form : Form) → have_distinct forms ≡ true
    → form_named verb forms ≡ Some form → are_distinct (members_of form) ≡ true
one_distinct [] verb form d e = absurd (cc)
one_distinct (f ∷ fs) verb form d e =
    let parts = and_parts (are_distinct (members_of f)) (have_distinct fs) d in
    by (bytes_eq verb f.verb) e parts (one_distinct fs verb form)
  where
    by : (c : Bool) → cond c (Some f) (form_named verb fs) ≡ Some form
        → (are_distinct (members_of f) ≡ true) × (have_distinct fs ≡ true)
        → (have_distinct fs ≡ true → form_named verb fs ≡ Some form → are_distinct (members_of form) ≡ true)
        → are_distinct (members_of form) ≡ true
    by true e h later = let same : f ≡ form = cc in subst (λ (f : Form). are_distinct (members_of f) ≡ true) same h.0
    by false e h later = later h.1 e

names_apart : (names : List (List ℕ)) → are_distinct (codes "do" ∷ codes "key" ∷ codes "day" ∷ names) ≡ true
    → (is_among (codes "do") names ≡ false) × (is_among (codes "key") names ≡ false)
names_apart names e =
    let a =
    and_parts (not (is_among (codes "do") (codes "key" ∷ codes "day" ∷ names)))
    (are_distinct (codes "key" ∷ codes "day" ∷ names)) e in
    let b = and_parts (not (is_among (codes "key") (codes "day" ∷ names))) (are_distinct (codes "day" ∷ names)) a.1 in
    (not_true (is_among (codes "do") names) a.0, not_true (is_among (codes "key") names) b.0)

form_distinct : (command : List ℕ) (form : Form) → sheet_form command ≡ Some form
    → are_distinct (members_of form) ≡ true
unfolding sheet_form
form_distinct command form e = by (has_own_files command) e
  where
    by : (c : Bool) → cond c None (form_named command (forms_by command_forms)) ≡ Some form
        → are_distinct (members_of form) ≡ true
    by true e = absurd (cc)
    by false e = one_distinct (forms_by command_forms) command form command_distinct e

-- ---- each line asks under a key

keyed : (key : List ℕ) (wish : Wish) → AsksUnder key wish → IsKeyed wish
keyed key (Request request) h = subst IsSome (sym h) refl
keyed key (Report name of) h = h

are_one_line : (line : ℕ → Fields → Result (List ℕ) What) (n : ℕ) (rs : List Fields) (ls : List (List ℕ))
    → AreLinesOf line n rs ls → list_all is_one_line ls ≡ true
are_one_line line n [] [] h = refl
are_one_line line n [] (l ∷ ls) h = absurd h
are_one_line line n (r ∷ rs) [] h = absurd h
are_one_line line n (r ∷ rs) (l ∷ ls) h =
    and_from (is_one_line l) (list_all is_one_line ls) h.1 (are_one_line line (n + 1) rs ls h.2)

module _ (verb document told : List ℕ) (columns : SheetColumns) (unclosed : Option ℕ)
    (no_do : is_among (codes "do") (map (λ f. f.name) columns.fields) ≡ false)
    (no_key : is_among (codes "key") (map (λ f. f.name) columns.fields) ≡ false) where
  one_keyed : (n : ℕ) (r : Fields) (l : List ℕ) (c : Bool)
      → l ≡ cond c [] (compact_text (line_data verb document told columns n r))
      → (l ≡ []) ⊎ ((names : Option Naming) (wish : Wish) → reading.line names l ≡ Ok wish → IsKeyed wish)
  one_keyed n r l true is = inl is
  one_keyed n r l false is = inr (λ names wish read.
      keyed (key_of verb document columns n r) wish
      (lines_ask_under_keys names verb document told columns n r wish no_do no_key
      (subst (λ v. reading.line names v ≡ Ok wish) is read)))

  all_keyed : (n : ℕ) (rs : List Fields) (ls : List (List ℕ))
      → AreLinesOf (line_of verb document told columns unclosed) n rs ls → AreKeyed ls
  all_keyed n [] [] h = tt
  all_keyed n [] (l ∷ ls) h = absurd h
  all_keyed n (r ∷ rs) [] h = absurd h
  all_keyed n (r ∷ rs) (l ∷ ls) h = (
    one_keyed n r l (is_left_out columns r) (line_cases verb document told columns unclosed n r l h.0),
    all_keyed (n + 1) rs ls h.2,
  )

pub sheets_ask_under_keys : SheetsAskUnderKeys
sheets_ask_under_keys command sheet bytes text form e =
    let lines = sheets_are_lines sheet bytes text e in
    let whole = strip_bom bytes in
    let named =
    first_named sheet.form sheet.said (records (config_by lines.separator) whole) lines.columns
    (layout-first (first_columns sheet.form sheet.said) whole separators (lines.separator, lines.columns) lines.layout) in
    let apart = names_apart (names_of sheet.form.fields) (form_distinct command sheet.form form) in
    let line =
    line_of sheet.form.verb sheet.document (day_text sheet.day) lines.columns (open_record (config_by lines.separator) whole) in
    let rs = drop 1 (records (config_by lines.separator) whole) in (
      [] ∷ lines.lines,
      are_one_line line 2 rs lines.lines lines.each,
      (
        inl refl,
        all_keyed sheet.form.verb sheet.document (day_text sheet.day) lines.columns
            (open_record (config_by lines.separator) whole)
            (ap (is_among (codes "do")) named ∙ apart.0) (ap (is_among (codes "key")) named ∙ apart.1) 2 rs lines.lines
            lines.each,
      ),
      lines.whole,
    )
