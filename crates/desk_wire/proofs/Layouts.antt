-- What the code reads of a file at a time, and all of the file.
use Rattle.std.proofs.Common.{◌≡◌, ℕ, ◌==◌, Bool, true, false, List, [], ◌∷◌, drop, length, refl, sym, ap, ◌∙◌}
use Rattle.std.proofs.Common.{inl, inr}
use Rattle.std.specs.Prelude.{Option, Some, None, Result, Ok, Err, nat_le}
use Rattle.std.specs.Str.{bytes_eq}
use Rattle.std.specs.Cmp.Lexicographic.{pointwise}
use Rattle.std.proofs.lemmas.Bool.{cases_Bool, true≢false}
use Rattle.csv.specs.Reading.{records, strip_bom}
use Rattle.word_core.specs.Day.{CivilDay}
use Rattle.desk_core.specs.Naming.{Naming}
use Rattle.desk_wire.specs.declared.fault.FileError.{FileError}
use Rattle.desk_wire.specs.declared.fault.FileError.TheVariants as error
use Rattle.desk_wire.specs.declared.fault.WireFault.{WireFault}
use Rattle.desk_wire.specs.declared.row.ImportRow.{ImportRow}
use Rattle.desk_wire.specs.declared.fault.Unread.TheVariants.{Wrong}
use Rattle.desk_wire.specs.declared.fault.What.{What}
use Rattle.desk_wire.specs.declared.fault.What.TheVariants.{Csv, Header, TooLong}
use Rattle.desk_wire.specs.declared.kind.ImportKind.{ImportKind}
use Rattle.desk_wire.specs.declared.layout.Layout.{Layout}
use Rattle.desk_wire.specs.declared.layout.Layout.TheVariants.{Strict, Loose}
use Rattle.desk_wire.specs.Imports.{Columns, arranged, field, first_columns, first_wrong}
use Rattle.desk_wire.specs.Imports.{layout_by, loosely, names_of, quantity_at, row_of, rows_by, rows_in}
use Rattle.desk_wire.specs.Imports.{rows_of_text, strictly, with_rows, wrong_by, wrong_in_file, wrong_in_row, wrong_in_text}
use Rattle.desk_wire.specs.Imports.{import, rows_under, unless_changed, unless_other, wrong_loosely, wrong_strictly}
use Rattle.desk_wire.specs.Imports.{wrong_under}
use Rattle.desk_wire.specs.Imports as imports
use Rattle.desk_wire.specs.Layouts.{IsReadAs, ReadsRow, reads_by, wrong_in}
use Rattle.desk_wire.specs.Quotes.{closed_of, ends_in_quotes}
use Rattle.desk_wire.specs.Records.{BytesReader, Fields, ReadsRecord, are_texts, config_by, left}
use Rattle.desk_wire.specs.Steps.{◌>>=◌, at}
use Rattle.desk_wire.proofs.Rows.{no-header}

-- ---- one record that isn't all text

pub untold : (names : Option Naming) (kind : ImportKind) (document : List ℕ) (day : CivilDay) (bad : Fields)
    → are_texts bad ≡ false → strictly names kind document day bad ≡ Err Csv
unfolding row_of
untold names kind document day bad h = elim (cases_Bool (length bad == length (names_of kind))) [
  | inl t ↦ rw (t, h) refl
  | inr f ↦ rw f refl
]

untold_loosely : (names : Option Naming) (kind : ImportKind) (document : List ℕ) (day : CivilDay) (columns : Columns)
    (bad : Fields) → are_texts bad ≡ false → loosely names kind document day columns bad ≡ Err Csv
unfolding loosely
untold_loosely names kind document day columns bad h = rw h refl

untold_by : (names : Option Naming) (kind : ImportKind) (document : List ℕ) (day : CivilDay) (layout : Layout)
    (bad : Fields) → are_texts bad ≡ false
    → (reads_by names kind document day layout bad ≡ Err Csv) × (wrong_in names kind layout (Some bad) ≡ None)
untold_by names kind document day Strict bad h = (untold names kind document day bad h, rw h refl)
untold_by names kind document day (Loose columns) bad h = (untold_loosely names kind document day _ bad h, rw h refl)

pub row-untold : (names : Option Naming) (kind : ImportKind) (document : List ℕ) (day : CivilDay) (layout : Layout)
    (number : ℕ) (a b : BytesReader) (fields : Fields) (what : What) → ReadsRecord a b fields (Err (Wrong what))
    → ReadsRow (reads_by names kind document day layout) (wrong_in names kind layout) number (left a) (left b)
    (Err (error.Wrong (record { line = number; what = what }) None))
row-untold names kind document day layout number a b fields what (bad, rest, e, n, is) =
    let u = untold_by names kind document day layout bad n in
    (bad, rest, e, ap (at number) (u.0 ∙ ap Err (sym is)), sym u.1)

-- ---- one record, as a row

pub strict-long : (names : Option Naming) (kind : ImportKind) (document : List ℕ) (day : CivilDay) (fields : Fields)
    → (length fields == length (names_of kind)) ≡ false
    → (strictly names kind document day fields ≡ Err Csv) × (wrong_strictly names kind (Some fields) ≡ None)
unfolding row_of
strict-long names kind document day fields h = elim (cases_Bool (are_texts fields)) [
  | inl t ↦ (rw h refl, rw (t, h) refl)
  | inr f ↦ (rw h refl, rw f refl)
]

pub loose-out : (names : Option Naming) (kind : ImportKind) (document : List ℕ) (day : CivilDay) (columns : Columns)
    (fields : Fields) → are_texts fields ≡ true → nat_le (length fields) columns.width ≡ true
    → field (quantity_at kind) (arranged columns fields) ≡ [] → loosely names kind document day columns fields ≡ Ok None
unfolding loosely
loose-out names kind document day columns fields t fits e = rw (t, fits, e) refl

pub not-empty : (xs : List ℕ) → (length xs == 0) ≡ false → (b : ℕ) × (bs : List ℕ) × (xs ≡ b ∷ bs)
not-empty [] h = absurd (true≢false h)
not-empty (b ∷ bs) h = (b, bs, refl)

-- a record with a quantity
pub loose-in : (names : Option Naming) (kind : ImportKind) (document : List ℕ) (day : CivilDay) (columns : Columns)
    (fields : Fields) (b : ℕ) (bs : List ℕ) → are_texts fields ≡ true
    → field (quantity_at kind) (arranged columns fields) ≡ b ∷ bs → nat_le (length fields) columns.width ≡ true
    → (loosely names kind document day columns fields
    ≡ unless_changed columns fields (strictly names kind document day (arranged columns fields)))
    × (wrong_loosely names kind columns (Some fields) ≡ wrong_in_row names kind (arranged columns fields))
unfolding loosely
loose-in names kind document day columns fields b bs t e fits = (rw (t, fits, e) refl, rw (t, fits) refl)

pub loose-long : (names : Option Naming) (kind : ImportKind) (document : List ℕ) (day : CivilDay) (columns : Columns)
    (fields : Fields) → are_texts fields ≡ true → nat_le (length fields) columns.width ≡ false
    → (loosely names kind document day columns fields ≡ Err Csv) × (wrong_loosely names kind columns (Some fields) ≡ None)
unfolding loosely
loose-long names kind document day columns fields t wide = (rw (t, wide) refl, rw (t, wide) refl)

-- ---- all records

-- ---- strictly

pub strict-none : (names : Option Naming) (kind : ImportKind) (document : List ℕ) (day : CivilDay) (all : List Fields)
    → all ≡ []
    → (rows_in names kind document day all ≡ Err (record { line = 1; what = Header }))
    × (wrong_under names kind document day all ≡ None)
strict-none names kind document day all e = (rw e refl, rw e refl)

pub strict-other : (names : Option Naming) (kind : ImportKind) (document : List ℕ) (day : CivilDay) (all : List Fields)
    (first : Fields) (rest : List Fields) → all ≡ first ∷ rest → pointwise bytes_eq (names_of kind) first ≡ false
    → (rows_in names kind document day all ≡ Err (record { line = 1; what = Header }))
    × (wrong_under names kind document day all ≡ None)
strict-other names kind document day all first rest e h = (rw (e, h) refl, rw (e, h) refl)

pub strict-untold : (names : Option Naming) (kind : ImportKind) (document : List ℕ) (day : CivilDay) (all : List Fields)
    (bad : Fields) (rest : List Fields) → all ≡ bad ∷ rest → are_texts bad ≡ false
    → (rows_in names kind document day all ≡ Err (record { line = 1; what = Header }))
    × (wrong_under names kind document day all ≡ None)
strict-untold names kind document day all bad rest e h =
    strict-other names kind document day all bad rest e (no-header kind bad h)

pub strict-rest : (names : Option Naming) (kind : ImportKind) (document : List ℕ) (day : CivilDay) (all : List Fields)
    (first : Fields) (rest : List Fields) → all ≡ first ∷ rest → pointwise bytes_eq (names_of kind) first ≡ true
    → (rows_in names kind document day all ≡ with_rows (strictly names kind document day) 2 [] rest)
    × (wrong_under names kind document day all
    ≡ wrong_strictly names kind (first_wrong (strictly names kind document day) rest))
strict-rest names kind document day all first rest e h = (rw (e, h) refl, rw (e, h) refl)

-- ---- loosely

pub layout-here : (kind : ImportKind) (text : List ℕ) (s : ℕ) (ss : List ℕ) (columns : Columns)
    → first_columns kind (records (config_by s) text) ≡ Some columns
    → layout_by kind text (s ∷ ss) ≡ Some (s, columns)
layout-here kind text s ss columns e = rw e refl

pub loose-rest : (names : Option Naming) (kind : ImportKind) (document : List ℕ) (day : CivilDay) (text : List ℕ)
    (o : Option (ℕ × Columns)) (layout : ℕ × Columns) (first : Fields) (rest : List Fields) → Some layout ≡ o
    → records (config_by layout.0) text ≡ first ∷ rest
    → (rows_by names kind document day text o
    ≡ (rows_under (ends_in_quotes (config_by layout.0) text) (loosely names kind document day layout.1) rest
    >>= unless_other text layout))
    × (wrong_by names kind document day text o
    ≡ wrong_loosely names kind layout.1
    (first_wrong (loosely names kind document day layout.1)
    (closed_of (ends_in_quotes (config_by layout.0) text) rest)))
loose-rest names kind document day text o layout first rest e is =
    rw (← e) (
      ap (λ all. rows_under (ends_in_quotes (config_by layout.0) text) (loosely names kind document day layout.1)
          (drop 1 all) >>= unless_other text layout) is,
      ap (λ all. wrong_loosely names kind layout.1
          (first_wrong (loosely names kind document day layout.1)
          (closed_of (ends_in_quotes (config_by layout.0) text) (drop 1 all)))) is,
    )

-- ---- a whole file

pub import-long : (loose : Bool) (names : Option Naming) (kind : ImportKind) (document : List ℕ) (day : CivilDay)
    (bytes : List ℕ) → nat_le (length bytes) 16777216 ≡ false
    → (import loose names kind document day bytes ≡ Err (record { line = 0; what = TooLong }))
    × (wrong_in_file loose names kind document day bytes ≡ None)
import-long loose names kind document day bytes h = (rw h refl, rw h refl)

pub import-fits : (loose : Bool) (names : Option Naming) (kind : ImportKind) (document : List ℕ) (day : CivilDay)
    (bytes : List ℕ) → nat_le (length bytes) 16777216 ≡ true
    → (import loose names kind document day bytes ≡ rows_of_text loose names kind document day (strip_bom bytes))
    × (wrong_in_file loose names kind document day bytes
    ≡ wrong_in_text loose names kind document day (strip_bom bytes))
import-fits loose names kind document day bytes h = (rw h refl, rw h refl)

-- ---- a record of which the books are asked

asked-fault : (number : ℕ) (columns : Columns) (fields : Fields) (reading : Result (Option ImportRow) What)
    (fault : WireFault) → at number reading ≡ Err fault
    → at number (unless_changed columns fields reading) ≡ Err fault
asked-fault number columns fields (Ok row) fault h = cc h
asked-fault number columns fields (Err what) fault h = h

-- what is wrong with it otherwise
pub asked-wrong : (number : ℕ) (columns : Columns) (fields : Fields) (reading : Result (Option ImportRow) What)
    (wrong : Option imports.Wrong) (e : FileError) → IsReadAs reading wrong number (Err e)
    → IsReadAs (unless_changed columns fields reading) wrong number (Err e)
asked-wrong number columns fields reading wrong error.Memory h = tt
asked-wrong number columns fields reading wrong (error.Wrong fault field) h =
    (asked-fault number columns fields reading fault h.0, h.1)
