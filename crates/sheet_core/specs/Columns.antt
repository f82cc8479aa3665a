-- Rows as columns: what a file has of a row, and which row columns are.
use Rattle.std.specs.Prelude.{◌≡◌, ℕ, ◌==◌, ◌/◌, ◌%◌, ◌<◌, ◌^◌, All, Bool, true, false, cond}
use Rattle.std.specs.Prelude.{if◌then◌else◌, List, length, slice_get, Option, Some, None, Result, Ok, Err}
use Rattle.sheet_core.specs.Rows.{EachRow}
use Rattle.sheet_core.specs.Sheet.{Table}
use Rattle.sheet_core.specs.declared.column.Column.{Column}
use Rattle.sheet_core.specs.declared.column.Column.TheVariants.{Whole, Text, Absent}
use Rattle.sheet_core.specs.declared.column.ColumnFault.{ColumnFault}
use Rattle.sheet_core.specs.declared.column.ColumnFault.TheVariants.{Memory, NoRow}

infixl 10 ◌>>=◌
-- one step of a reading after another, each of which may find no row
abbrev pub ◌>>=◌ : {A B : Type 0} → Option A → (A → Option B) → Option B
None >>= f = None
(Some x) >>= f = f x

-- a test that must hold
abbrev pub must : Bool → Option (Unit {0})
must true = Some tt
must false = None

-- what a function of the code answered is what the reading finds, unless memory ran out
abbrev pub Misses : {X : Type 0} → ColumnFault → Option X → Type 0
Misses Memory found = Unit {0}
Misses NoRow found = found ≡ None

abbrev pub Finds : {X : Type 0} → Result X ColumnFault → Option X → Type 0
Finds (Ok x) found = found ≡ Some x
Finds (Err fault) found = Misses fault found

-- there are so many columns
abbrev pub has : ℕ → List Column → Option (Unit {0})
has count columns = must (length columns == count)

-- ---- what stands in a column

abbrev pub whole_of : Option Column → Option ℕ
whole_of (Some (Whole n)) = Some n
whole_of _ = None

abbrev pub whole_or_none_of : Option Column → Option (Option ℕ)
whole_or_none_of (Some (Whole n)) = Some (Some n)
whole_or_none_of (Some Absent) = Some None
whole_or_none_of _ = None

abbrev pub words_of : Option Column → Option (List ℕ)
words_of (Some (Text text)) = Some text
words_of _ = None

abbrev pub words_or_none_of : Option Column → Option (Option (List ℕ))
words_or_none_of (Some (Text text)) = Some (Some text)
words_or_none_of (Some Absent) = Some None
words_or_none_of _ = None

abbrev pub number_at : ℕ → List Column → Option ℕ
number_at i columns = whole_of (slice_get columns i)

abbrev pub number_or_none_at : ℕ → List Column → Option (Option ℕ)
number_or_none_at i columns = whole_or_none_of (slice_get columns i)

abbrev pub text_at : ℕ → List Column → Option (List ℕ)
text_at i columns = words_of (slice_get columns i)

abbrev pub text_or_none_at : ℕ → List Column → Option (Option (List ℕ))
text_or_none_at i columns = words_or_none_of (slice_get columns i)

-- a text that passes the test
abbrev pub fitting : (List ℕ → Bool) → List ℕ → Option (List ℕ)
fitting test text = cond (test text) (Some text) None

-- a text that passes the test, or none
abbrev pub fitting_or_none : (List ℕ → Bool) → Option (List ℕ) → Option (Option (List ℕ))
fitting_or_none test None = Some None
fitting_or_none test (Some text) = cond (test text) (Some (Some text)) None

-- ---- tests

abbrev pub yes_number : Bool → ℕ
yes_number b = cond b 1 0

abbrev pub yes_of : ℕ → Option Bool
yes_of n = if n == 0 then Some false else (if n == 1 then Some true else None)

abbrev pub yes_at : ℕ → List Column → Option Bool
yes_at i columns = do
  n ← number_at i columns
  yes_of n

-- ---- columns of what may be absent

abbrev pub number_or_absent : Option ℕ → Column
number_or_absent None = Absent
number_or_absent (Some n) = Whole n

abbrev pub text_or_absent : Option (List ℕ) → Column
text_or_absent None = Absent
text_or_absent (Some text) = Text text

-- whether the number has the bit of that weight
abbrev pub is_bit : ℕ → ℕ → Bool
is_bit weight n = n / weight % 2 == 1

-- ---- what fits a file

-- the column fits a file, whose numbers are signed
abbrev pub IsSmall : Column → Type 0
IsSmall (Whole n) = n < 2 ^ 63
IsSmall _ = Unit {0}

-- no number of a row is too large for a file
abbrev pub AreSmall : {R : Type 0} → (R → List Column) → Table R → Type 0
AreSmall columns rows = EachRow (λ row. All IsSmall (columns row)) rows
