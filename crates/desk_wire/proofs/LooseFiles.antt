-- A file that is read strictly, and has no quote open at its end, is read so loosely.
use Rattle.std.proofs.Common.{◌≡◌, ℕ, ◌+◌, ◌++◌, ◌==◌, ◌&&◌, true, false, List, [], ◌∷◌, length, arith, refl, sym, ap}
use Rattle.std.proofs.Common.{◌∙◌, inl, inr}
use Rattle.std.specs.Prelude.{Option, Some, None, Result, Ok, Err, is_err, nat_le}
use Rattle.std.specs.Str.{bytes_eq}
use Rattle.std.specs.Cmp.Lexicographic.{pointwise}
use Rattle.std.proofs.lemmas.Bool.{and_parts, cases_Bool, eqb-true, false≢true, le-leb}
use Rattle.std.proofs.lemmas.Slice.Eq.{bytes_eq-Decides}
use Rattle.csv.specs.Reading.{default_config, records, strip_bom}
use Rattle.csv.specs.Records.{field_at}
use Rattle.word_core.specs.Day.{CivilDay}
use Rattle.word_core.specs.declared.field.RowKind.TheVariants as table
use Rattle.desk_core.specs.Naming.{Naming}
use Rattle.std.specs.Prelude.{codes}
use Rattle.desk_wire.specs.declared.fault.What.{What}
use Rattle.desk_wire.specs.declared.fault.What.TheVariants.{Csv, WrongType}
use Rattle.desk_wire.specs.declared.kind.ImportKind.{ImportKind}
use Rattle.desk_wire.specs.declared.kind.ImportKind.TheVariants.{Receipts, Counts}
use Rattle.desk_wire.specs.declared.row.ImportRow.{ImportRow}
use Rattle.desk_wire.specs.Imports.{Columns, LooseReadsStrict, Reads, arranged, columns_of, command_of, field}
use Rattle.desk_wire.specs.Imports.{layout_by, loosely, names_of, quantity_at, row_list, row_of, rows_by, rows_in}
use Rattle.desk_wire.specs.Imports.{columns_at, has_other_separator, rows_under, separators, strictly, unless_changed}
use Rattle.desk_wire.specs.Imports.{unless_other, with_rows}
use Rattle.desk_wire.specs.Numbers.{row_number_in}
use Rattle.desk_wire.specs.Quotes.{ends_in_quotes}
use Rattle.desk_wire.specs.Records.{Fields, are_texts}
use Rattle.desk_wire.specs.RowWords.{row_at_word}
use Rattle.desk_wire.specs.Steps.{◌>>=◌, must, or_fault}
use Rattle.desk_wire.proofs.ColumnFacts.{columns-are}
use Rattle.desk_wire.proofs.Layouts.{import-fits, import-long, layout-here, loose-in, loose-rest, strict-long, strict-none}
use Rattle.desk_wire.proofs.Layouts.{strict-other, strict-rest, untold}
use Rattle.desk_wire.proofs.Rows.{names-texts}

-- ---- the columns of the header itself

abbrev strict_places : ImportKind → List (Option ℕ)
strict_places Receipts = Some 0 ∷ Some 1 ∷ Some 2 ∷ Some 3 ∷ Some 4 ∷ Some 5 ∷ []
strict_places Counts = Some 0 ∷ Some 1 ∷ Some 2 ∷ []

abbrev strict_columns : ImportKind → Columns
strict_columns kind = columns_at kind (names_of kind) (strict_places kind)

header-columns : (kind : ImportKind) → columns_of kind (names_of kind) ≡ Some (strict_columns kind)
header-columns Receipts =
    columns-are Receipts (names_of Receipts) (strict_places Receipts) (names-texts Receipts) refl
header-columns Counts = columns-are Counts (names_of Counts) (strict_places Counts) (names-texts Counts) refl

same-names : (names fields : Fields) → pointwise bytes_eq names fields ≡ true → fields ≡ names
same-names [] [] e = refl
same-names [] (f ∷ fs) e = absurd (false≢true e)
same-names (n ∷ ns) [] e = absurd (false≢true e)
same-names (n ∷ ns) (f ∷ fs) e =
    let parts = and_parts (bytes_eq n f) (pointwise bytes_eq ns fs) e in
    ap (λ v. v ∷ fs) (sym ((bytes_eq-Decides n f).0 parts.0)) ∙ ap (λ vs. n ∷ vs) (same-names ns fs parts.1)

-- by them a record is as it stands
arranged-same : (kind : ImportKind) (fields : Fields) → (length fields == length (names_of kind)) ≡ true
    → arranged (strict_columns kind) fields ≡ fields
unfolding field_at
arranged-same Receipts [] h = absurd (false≢true h)
arranged-same Receipts (a ∷ []) h = absurd (false≢true h)
arranged-same Receipts (a ∷ b ∷ []) h = absurd (false≢true h)
arranged-same Receipts (a ∷ b ∷ c ∷ []) h = absurd (false≢true h)
arranged-same Receipts (a ∷ b ∷ c ∷ d ∷ []) h = absurd (false≢true h)
arranged-same Receipts (a ∷ b ∷ c ∷ d ∷ e ∷ []) h = absurd (false≢true h)
arranged-same Receipts (a ∷ b ∷ c ∷ d ∷ e ∷ f ∷ []) h = refl
arranged-same Receipts (a ∷ b ∷ c ∷ d ∷ e ∷ f ∷ g ∷ gs) h =
    let long = eqb-true (length (a ∷ b ∷ c ∷ d ∷ e ∷ f ∷ g ∷ gs)) 6 h in
    absurd (omega arith)
arranged-same Counts [] h = absurd (false≢true h)
arranged-same Counts (a ∷ []) h = absurd (false≢true h)
arranged-same Counts (a ∷ b ∷ []) h = absurd (false≢true h)
arranged-same Counts (a ∷ b ∷ c ∷ []) h = refl
arranged-same Counts (a ∷ b ∷ c ∷ d ∷ ds) h =
    let long = eqb-true (length (a ∷ b ∷ c ∷ d ∷ ds)) 3 h in
    absurd (omega arith)

-- ---- a record without a quantity is no row

first-fails : {A B : Type 0} (r : Result A What) (f : A → Result B What) → is_err r ≡ true → is_err (r >>= f) ≡ true
first-fails (Ok x) f h = absurd (false≢true h)
first-fails (Err what) f h = refl

later-fails : {A B : Type 0} (r : Result A What) (f : A → Result B What) → ((x : A) → is_err (f x) ≡ true)
    → is_err (r >>= f) ≡ true
later-fails (Ok x) f h = h x
later-fails (Err what) f h = refl

command-fails : (names : Option Naming) (kind : ImportKind) (fields : Fields) → field (quantity_at kind) fields ≡ []
    → is_err (command_of names kind fields) ≡ true
command-fails names Receipts fields e =
    later-fails (row_at_word names table.OrderLine (codes "line") (field 1 fields)) _
    (λ line. later-fails (row_at_word names table.Location (codes "location") (field 2 fields)) _
    (λ location. rw e refl))
command-fails names Counts fields e =
    later-fails (row_at_word names table.Item (codes "item") (field 1 fields)) _ (λ item. rw e refl)

row-fails : (names : Option Naming) (kind : ImportKind) (document : List ℕ) (day : CivilDay) (fields : Fields)
    → field (quantity_at kind) fields ≡ [] → is_err (row_of names kind document day fields) ≡ true
unfolding row_of
row-fails names kind document day fields e =
    later-fails (must Csv (length fields == length (names_of kind))) _
    (λ whole. later-fails (must Csv (are_texts fields)) _
    (λ texts. later-fails (or_fault WrongType (row_number_in (field 0 fields))) _
    (λ number. first-fails (command_of names kind fields) _ (command-fails names kind fields e))))

no-row : (names : Option Naming) (kind : ImportKind) (document : List ℕ) (day : CivilDay) (fields : Fields)
    (row : Option ImportRow) → strictly names kind document day fields ≡ Ok row
    → field (quantity_at kind) fields ≡ [] → ⊥
no-row names kind document day fields row h e =
    let fails : is_err (strictly names kind document day fields) ≡ true =
    first-fails (row_of names kind document day fields) _ (row-fails names kind document day fields e) in
    false≢true (sym (ap is_err h) ∙ fails)

-- ---- a record that is read strictly

as-long : (names : Option Naming) (kind : ImportKind) (document : List ℕ) (day : CivilDay) (fields : Fields)
    (row : Option ImportRow) → strictly names kind document day fields ≡ Ok row
    → (length fields == length (names_of kind)) ≡ true
as-long names kind document day fields row h = elim (cases_Bool (length fields == length (names_of kind))) [
  | inl t ↦ t
  | inr f ↦
      let bad : Err Csv ≡ Ok row = sym (strict-long names kind document day fields f).0 ∙ h in
      cc
]

are-texts : (names : Option Naming) (kind : ImportKind) (document : List ℕ) (day : CivilDay) (fields : Fields)
    (row : Option ImportRow) → strictly names kind document day fields ≡ Ok row → are_texts fields ≡ true
are-texts names kind document day fields row h = elim (cases_Bool (are_texts fields)) [
  | inl t ↦ t
  | inr f ↦
      let bad : Err Csv ≡ Ok row = sym (untold names kind document day fields f) ∙ h in
      cc
]

loosely-same : (names : Option Naming) (kind : ImportKind) (document : List ℕ) (day : CivilDay) (fields : Fields)
    (row : Option ImportRow) → strictly names kind document day fields ≡ Ok row
    → loosely names kind document day (strict_columns kind) fields ≡ Ok row
loosely-same names kind document day fields row h = go (field (quantity_at kind) fields) refl
  where
    long : (length fields == length (names_of kind)) ≡ true
    long = as-long names kind document day fields row h

    same : arranged (strict_columns kind) fields ≡ fields
    same = arranged-same kind fields long

    fits : nat_le (length fields) (length (names_of kind)) ≡ true
    fits =
        let e = eqb-true (length fields) (length (names_of kind)) long in
        le-leb (length fields) (length (names_of kind)) (omega arith)

    unasked : (read : Option ImportRow) → unless_changed (strict_columns kind) fields (Ok read) ≡ Ok read
    unasked None = refl
    unasked (Some x) = refl

    go : (quantity : List ℕ) → field (quantity_at kind) fields ≡ quantity
        → loosely names kind document day (strict_columns kind) fields ≡ Ok row
    go [] e = absurd (no-row names kind document day fields row h e)
    go (b ∷ bs) e =
        let there : field (quantity_at kind) (arranged (strict_columns kind) fields) ≡ b ∷ bs =
        ap (field (quantity_at kind)) same ∙ e in
        (loose-in names kind document day (strict_columns kind) fields b bs
        (are-texts names kind document day fields row h) there fits).0
        ∙ ap (λ read. unless_changed (strict_columns kind) fields read) (ap (strictly names kind document day) same ∙ h)
        ∙ unasked row

-- ---- all records

with-same : (one other : Reads) → ((fields : Fields) (row : Option ImportRow) → one fields ≡ Ok row → other fields ≡ Ok row)
    → (number : ℕ) (rows : List ImportRow) (rs : List Fields) (all : List ImportRow)
    → with_rows one number rows rs ≡ Ok all → with_rows other number rows rs ≡ Ok all
with-same one other same number rows [] all h = h
with-same one other same number rows (r ∷ rs) all h =
    go (one r) refl (λ row. with-same one other same (number + 1) (rows ++ row_list row) rs all)
  where
    go : (read : Result (Option ImportRow) What) → one r ≡ read
        → ((row : Option ImportRow) → with_rows one (number + 1) (rows ++ row_list row) rs ≡ Ok all
        → with_rows other (number + 1) (rows ++ row_list row) rs ≡ Ok all)
        → with_rows other number rows (r ∷ rs) ≡ Ok all
    go (Ok row) e more = rw (same r row e) (more row (rw e at h))
    go (Err what) e more = let bad = rw e at h in cc

-- a first record that is read strictly is as wide as the header, so that it has no other separator
no-other : (kind : ImportKind) (text : List ℕ) (first : Fields) (rest : List Fields)
    → records default_config text ≡ first ∷ rest
    → ((r : Fields) (rs : List Fields) → rest ≡ r ∷ rs → (length r == length (names_of kind)) ≡ true)
    → has_other_separator text 44 (length (names_of kind)) ≡ false
no-other kind text first [] is long = rw is refl
no-other kind text first (r ∷ rs) is long = elim (cases_Bool (are_texts first && are_texts r)) [
  | inl t ↦ rw (is, t, long r rs refl) refl
  | inr f ↦ rw (is, f) refl
]

rows-same : (text : List ℕ) (columns : Columns) (rows : List ImportRow)
    → has_other_separator text 44 columns.width ≡ false → unless_other text (44, columns) rows ≡ Ok rows
rows-same text columns [] h = rw h refl
rows-same text columns (row ∷ rows) h = refl

first-long : (names : Option Naming) (kind : ImportKind) (document : List ℕ) (day : CivilDay) (rest : List Fields)
    (rows : List ImportRow) → with_rows (strictly names kind document day) 2 [] rest ≡ Ok rows
    → (r : Fields) (rs : List Fields) → rest ≡ r ∷ rs → (length r == length (names_of kind)) ≡ true
first-long names kind document day rest rows h r rs is = go (strictly names kind document day r) refl
  where
    go : (read : Result (Option ImportRow) What) → strictly names kind document day r ≡ read
        → (length r == length (names_of kind)) ≡ true
    go (Ok row) e = as-long names kind document day r row e
    go (Err what) e = let bad = rw (is, e) at h in cc

text-same : (names : Option Naming) (kind : ImportKind) (document : List ℕ) (day : CivilDay) (text : List ℕ)
    (rows : List ImportRow) → rows_in names kind document day (records default_config text) ≡ Ok rows
    → ends_in_quotes default_config text ≡ false
    → rows_by names kind document day text (layout_by kind text separators) ≡ Ok rows
text-same names kind document day text rows h closed = go (records default_config text) refl
  where
    under : (first : Fields) (rest : List Fields) → records default_config text ≡ first ∷ rest
        → pointwise bytes_eq (names_of kind) first ≡ true
        → rows_by names kind document day text (layout_by kind text separators) ≡ Ok rows
    under first rest is t =
        let columns : columns_of kind first ≡ Some (strict_columns kind) =
        ap (columns_of kind) (same-names (names_of kind) first t) ∙ header-columns kind in
        let found : layout_by kind text separators ≡ Some (44, strict_columns kind) =
        layout-here kind text 44 (59 ∷ 9 ∷ []) (strict_columns kind) (rw is columns) in
        let strict : with_rows (strictly names kind document day) 2 [] rest ≡ Ok rows =
        sym (strict-rest names kind document day (records default_config text) first rest is t).0 ∙ h in
        let loose : with_rows (loosely names kind document day (strict_columns kind)) 2 [] rest ≡ Ok rows =
        with-same (strictly names kind document day) (loosely names kind document day (strict_columns kind))
        (loosely-same names kind document day) 2 [] rest rows strict in
        (loose-rest names kind document day text (layout_by kind text separators) (44, strict_columns kind) first rest
        (sym found) is).0
        ∙ ap (λ unclosed. rows_under unclosed (loosely names kind document day (strict_columns kind)) rest
        >>= unless_other text (44, strict_columns kind)) closed
        ∙ ap (λ reading. reading >>= unless_other text (44, strict_columns kind)) loose
        ∙ rows-same text (strict_columns kind) rows
        (no-other kind text first rest is (first-long names kind document day rest rows strict))

    go : (all : List Fields) → records default_config text ≡ all
        → rows_by names kind document day text (layout_by kind text separators) ≡ Ok rows
    go [] is =
        let bad = sym (strict-none names kind document day (records default_config text) is).0 ∙ h in
        cc
    go (first ∷ rest) is = elim (cases_Bool (pointwise bytes_eq (names_of kind) first)) [
      | inl t ↦ under first rest is t
      | inr f ↦
          let bad = sym (strict-other names kind document day (records default_config text) first rest is f).0 ∙ h in
          cc
    ]

pub loose_reads_strict : LooseReadsStrict
loose_reads_strict names kind document day bytes rows h closed = elim (cases_Bool (nat_le (length bytes) 16777216)) [
  | inl t ↦
      (import-fits true names kind document day bytes t).0
      ∙ text-same names kind document day (strip_bom bytes) rows
      (sym (import-fits false names kind document day bytes t).0 ∙ h) closed
  | inr f ↦
      let bad = sym (import-long false names kind document day bytes f).0 ∙ h in
      cc
]
