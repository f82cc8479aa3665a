-- The records of a file of which a quote may be open at the end.
use Rattle.std.proofs.Common.{◌≡◌, ℕ, ◌+◌, Bool, true, false, List, [], ◌∷◌, ◌++◌, length, refl, sym, ap, ◌∙◌}
use Rattle.std.proofs.Common.{inl, inr, arith}
use Rattle.std.specs.Prelude.{Option, Some, None, IsSome, Result, Ok, Err, IfOk, is_some}
use Rattle.std.proofs.lemmas.Bool.{cases_Bool, false≢true}
use Rattle.csv.specs.Reading.{records}
use Rattle.csv.specs.declared.parser.Config.{Config}
use Rattle.word_core.specs.Day.{CivilDay}
use Rattle.desk_core.specs.Naming.{Naming}
use Rattle.desk_wire.specs.declared.fault.FileError.{FileError}
use Rattle.desk_wire.specs.declared.fault.FileError.TheVariants as error
use Rattle.desk_wire.specs.declared.fault.What.{What}
use Rattle.desk_wire.specs.declared.fault.What.TheVariants.{Csv}
use Rattle.desk_wire.specs.declared.fault.WireFault.{WireFault}
use Rattle.desk_wire.specs.declared.kind.ImportKind.{ImportKind}
use Rattle.desk_wire.specs.declared.row.ImportRow.{ImportRow}
use Rattle.desk_wire.specs.Imports.{Columns, Reads, first_width, first_wrong, row_list, rows_by, rows_under, with_rows}
use Rattle.desk_wire.specs.Imports.{has_other_separator, loosely, unless_other, wrong_by, wrong_loosely}
use Rattle.desk_wire.specs.Imports as imports
use Rattle.desk_wire.specs.Layouts.{EndsAt, IsLast, ReadsRow, begin_text}
use Rattle.desk_wire.specs.Quotes.{closed_of, ends_in_quotes, open_record}
use Rattle.desk_wire.specs.Records.{Fields, are_texts, config_by}
use Rattle.desk_wire.specs.Steps.{◌>>=◌}
use Rattle.desk_wire.proofs.Layouts.{loose-rest}

-- ---- the next record

-- one that isn't the last with an open quote
pub next-closed : (unclosed : Option ℕ) (number : ℕ) (fields : Fields) (rest : List Fields)
    → IsLast unclosed number (fields ∷ rest) → (unclosed ≡ Some number → ⊥)
    → (closed_of (is_some unclosed) (fields ∷ rest) ≡ fields ∷ closed_of (is_some unclosed) rest) × IsLast unclosed (number + 1) rest
next-closed None number fields rest last other = (refl, tt)
next-closed (Some last) number fields [] h other =
    let here : last ≡ number = omega (arith, h.0, h.1) in
    absurd (other (ap Some here))
next-closed (Some last) number fields (r ∷ rs) h other = (refl, (omega (arith, h.0, h.1), omega (arith, h.0, h.1)))

-- what reading it did
pub closed-read : (reads : Reads) (wrong : Option Fields → Option imports.Wrong) (number : ℕ) (unclosed : Option ℕ)
    (old new : List Fields) (r : Result (Option (Option ImportRow)) FileError) → ReadsRow reads wrong number old new r
    → IsLast unclosed number old → (unclosed ≡ Some number → ⊥)
    → ReadsRow reads wrong number (closed_of (is_some unclosed) old) (closed_of (is_some unclosed) new) r
closed-read reads wrong number None old new r h last other = h
closed-read reads wrong number (Some n) old new (Ok None) h last other = ap (closed_of true) h
closed-read reads wrong number (Some n) old new (Ok (Some row)) (fields, e, is) last other =
    (fields, ap (closed_of true) e ∙ (next-closed (Some n) number fields new (rw e at last) other).0, is)
closed-read reads wrong number (Some n) old new (Err error.Memory) h last other = tt
closed-read reads wrong number (Some n) old new (Err (error.Wrong fault field)) (fields, rest, e, is, told) last other = (
  fields,
  closed_of true rest,
  ap (closed_of true) e ∙ (next-closed (Some n) number fields rest (rw e at last) other).0,
  is,
  told,
)

pub last-read : (reads : Reads) (wrong : Option Fields → Option imports.Wrong) (number : ℕ) (unclosed : Option ℕ)
    (old new : List Fields) (r : Result (Option (Option ImportRow)) FileError) → ReadsRow reads wrong number old new r
    → IsLast unclosed number old → (unclosed ≡ Some number → ⊥)
    → IfOk r (λ row. IsSome row → IsLast unclosed (number + 1) new)
last-read reads wrong number unclosed old new (Ok None) h last other = λ none. absurd (false≢true none)
last-read reads wrong number unclosed old new (Ok (Some row)) (fields, e, is) last other =
    λ some. (next-closed unclosed number fields new (rw e at last) other).1
last-read reads wrong number unclosed old new (Err e) h last other = tt

pub end-read : (reads : Reads) (wrong : Option Fields → Option imports.Wrong) (number : ℕ) (unclosed : Option ℕ)
    (old new : List Fields) (r : Result (Option (Option ImportRow)) FileError) → ReadsRow reads wrong number old new r
    → IsLast unclosed number old → IfOk r (λ row. row ≡ None → EndsAt unclosed number)
end-read reads wrong number None old new (Ok row) h last = λ none. tt
end-read reads wrong number (Some n) old new (Ok None) h last =
    let at_end : (n + 1 ≡ number + length old) × (length old ≡ 0) = (last.1, ap length h) in
    λ none. omega (arith, last.0, at_end.0, at_end.1)
end-read reads wrong number (Some n) old new (Ok (Some row)) h last = λ none. cc none
end-read reads wrong number unclosed old new (Err e) h last = tt

pub read-none : (number : ℕ) (rs : List Fields) → IsLast (Some number) number rs → closed_of true rs ≡ []
read-none number [] h = refl
read-none number (r ∷ []) h = refl
read-none number (r ∷ s ∷ rs) h = absurd (omega (arith, h.0, h.1))

-- ---- records that can all be read

first-right : (reads : Reads) (number : ℕ) (rows : List ImportRow) (rs : List Fields) (all : List ImportRow)
    → with_rows reads number rows rs ≡ Ok all → first_wrong reads rs ≡ None
first-right reads number rows [] all h = refl
first-right reads number rows (r ∷ rs) all h =
    go (reads r) refl (λ row. first-right reads (number + 1) (rows ++ row_list row) rs all)
  where
    go : (read : Result (Option ImportRow) What) → reads r ≡ read
        → ((row : Option ImportRow) → with_rows reads (number + 1) (rows ++ row_list row) rs ≡ Ok all
        → first_wrong reads rs ≡ None)
        → first_wrong reads (r ∷ rs) ≡ None
    go (Ok row) e more = rw e (more row (rw e at h))
    go (Err what) e more = let bad = rw e at h in cc

never-right : {A B : Type 0} (reading : Result A WireFault) (fault : WireFault) (all : B)
    → (reading >>= (λ (x : A). Err fault)) ≡ Ok all → ⊥
never-right (Ok x) fault all h = cc h
never-right (Err e) fault all h = cc h

pub all-right : (unclosed : Bool) (reads : Reads) (rs : List Fields) (all : List ImportRow)
    → rows_under unclosed reads rs ≡ Ok all → first_wrong reads (closed_of unclosed rs) ≡ None
all-right false reads rs all h = first-right reads 2 [] rs all h
all-right true reads rs all h = absurd (never-right (with_rows reads 2 [] (closed_of true rs)) _ all h)

-- ---- the record of a file in which a quote is open

pub is-open : (config : Config) (text : List ℕ) (unclosed : Option ℕ) → unclosed ≡ open_record config text
    → is_some unclosed ≡ ends_in_quotes config text
is-open config text unclosed e = elim (cases_Bool (ends_in_quotes config text)) [
  | inl t ↦ rw (e, t) refl
  | inr f ↦ rw (e, f) refl
]

-- the header
pub open-first : (config : Config) (text : List ℕ) (first : Fields) (rest : List Fields) → open_record config text ≡ Some 1
    → records config text ≡ first ∷ rest → (ends_in_quotes config text ≡ true) × (rest ≡ [])
open-first config text first rest e is = elim (cases_Bool (ends_in_quotes config text)) [
  | inl t ↦
      let one : Some (length (records config text)) ≡ Some 1 = rw t at e in
      let count : length (first ∷ rest) ≡ 1 = ap length (sym is) ∙ cc one in
      (t, none rest count)
  | inr f ↦ let bad = rw f at e in cc
]
  where
    none : (rs : List Fields) → length (first ∷ rs) ≡ 1 → rs ≡ []
    none [] h = refl
    none (r ∷ rs) h = absurd (omega (arith, h))

-- ---- how wide the first record under the header is

pub no_first : (rs : List Fields) → begin_text rs ≡ false → first_width rs ≡ None
no_first [] h = refl
no_first (r ∷ []) h = refl
no_first (r ∷ s ∷ rs) h = rw h refl

pub no_second : (header : Fields) (rs : List Fields) → are_texts header ≡ true → begin_text rs ≡ false
    → first_width (header ∷ rs) ≡ None
no_second header [] t h = refl
no_second header (r ∷ rs) t h = rw (t, h) refl

pub second_there : (header r : Fields) (rs : List Fields) → are_texts header ≡ true → are_texts r ≡ true
    → first_width (header ∷ r ∷ rs) ≡ Some (length r)
second_there header r rs t u = rw (t, u) refl

-- ---- a file whose header has the open quote

pub header-open : (names : Option Naming) (kind : ImportKind) (document : List ℕ) (day : CivilDay) (text : List ℕ)
    (layout : ℕ × Columns) (first : Fields) (rest : List Fields) → open_record (config_by layout.0) text ≡ Some 1
    → records (config_by layout.0) text ≡ first ∷ rest
    → (rows_by names kind document day text (Some layout) ≡ Err (record { line = 1; what = Csv }))
    × (wrong_by names kind document day text (Some layout) ≡ None)
header-open names kind document day text layout first rest e is =
    let (t, none) = open-first (config_by layout.0) text first rest e is in
    rw (is, t, none) (refl, refl)

-- ---- a file without a row, of which the first record under the header has another separator

pub other-separator : (names : Option Naming) (kind : ImportKind) (document : List ℕ) (day : CivilDay) (text : List ℕ)
    (layout : ℕ × Columns) (first : Fields) (rest : List Fields) (unclosed : Option ℕ)
    → unclosed ≡ open_record (config_by layout.0) text → records (config_by layout.0) text ≡ first ∷ rest
    → rows_under (is_some unclosed) (loosely names kind document day layout.1) rest ≡ Ok []
    → has_other_separator text layout.0 layout.1.width ≡ true
    → (rows_by names kind document day text (Some layout) ≡ Err (record { line = 2; what = Csv }))
    × (wrong_by names kind document day text (Some layout) ≡ None)
other-separator names kind document day text layout first rest unclosed e is none other =
    let reads = loosely names kind document day layout.1 in
    let ended : rows_under (ends_in_quotes (config_by layout.0) text) reads rest ≡ Ok [] =
    ap (λ b. rows_under b reads rest) (sym (is-open (config_by layout.0) text unclosed e)) ∙ none in
    let all = loose-rest names kind document day text (Some layout) layout first rest refl is in (
      all.0 ∙ ap (λ v. v >>= unless_other text layout) ended ∙ rw other refl,
      all.1
          ∙ ap (wrong_loosely names kind layout.1) (all-right (ends_in_quotes (config_by layout.0) text) reads rest [] ended),
    )
