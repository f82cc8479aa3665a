-- What a dump says to whoever reads it by the rules of SQL, and what one says that was cut short.
use Rattle.std.specs.Prelude.{◌≡◌, ◌<◌, ◌+◌, ◌*◌, ◌-◌, ◌^◌, ◌==◌, ◌&&◌, ◌||◌, nat_lt, nat_le, ℕ, zero, suc, Bool, true, false}
use Rattle.std.specs.Prelude.{if◌then◌else◌, List, [], ◌∷◌, ◌++◌, length, take, codes, Option, Some, None, is_some, option_map}
use Rattle.std.specs.List.{AllByRecursion}
use Rattle.sheet_core.specs.Columns.{◌>>=◌}
use Rattle.sheet_core.specs.declared.column.Column.{Column}
use Rattle.sheet_core.specs.declared.column.Column.TheVariants.{Whole, Text, Absent}
use Rattle.desk_core.specs.Machine.{State}
use Rattle.desk_store.specs.Dumps.{dump_text, insert_line}
use Rattle.table_store.specs.Schema.{name_of}
use Rattle.table_store.specs.declared.name.TableName.{TableName}

-- the first of two readings that finds something
abbrev pub or_else : {A : Type 0} → Option A → Option A → Option A
or_else (Some x) other = Some x
or_else None other = other

-- ---- a row, read again

-- what stands behind this front of a text, if the text begins so
abbrev pub behind : List ℕ → List ℕ → Option (List ℕ)
behind [] text = Some text
behind (p ∷ ps) [] = None
behind (p ∷ ps) (b ∷ bs) = if b == p then behind ps bs else None

-- what was read, with a byte before it
abbrev pub with_byte : ℕ → List ℕ × List ℕ → List ℕ × List ℕ
with_byte b read = (b ∷ read.0, read.1)

-- the text up to the quote that ends it, where two quotes are one, and what stands behind it; the byte before may be a
-- quote
abbrev pub quoted : Bool → List ℕ → Option (List ℕ × List ℕ)
quoted false [] = None
quoted true [] = Some ([], [])
quoted false (b ∷ bs) = if b == 39 then quoted true bs else option_map (with_byte b) (quoted false bs)
quoted true (b ∷ bs) = if b == 39 then option_map (with_byte 39) (quoted false bs) else Some ([], b ∷ bs)

-- a digit's value: 0 to 9, A to F
abbrev pub hex_value : ℕ → ℕ
hex_value d = if nat_lt d 65 then d - 48 else d - 55

-- the bytes whose digits stand before the next quote, and what stands behind it
abbrev pub hex_read : List ℕ → Option (List ℕ × List ℕ)
hex_read [] = None
hex_read (d ∷ []) = if d == 39 then Some ([], []) else None
hex_read (d ∷ e ∷ rest) =
    if d == 39 then Some ([], e ∷ rest)
    else option_map (with_byte (hex_value d * 16 + hex_value e)) (hex_read rest)

abbrev pub is_digit : ℕ → Bool
is_digit b = nat_le 48 b && nat_le b 57

-- the number whose digits begin a text, where those before are another's, and what stands behind them
abbrev pub digits_read : ℕ → List ℕ → ℕ × List ℕ
digits_read n [] = (n, [])
digits_read n (b ∷ bs) = if is_digit b then digits_read (10 * n + (b - 48)) bs else (n, b ∷ bs)

-- ... of which there is one at least
abbrev pub number_read : List ℕ → Option (ℕ × List ℕ)
number_read [] = None
number_read (b ∷ bs) = if is_digit b then Some (digits_read 0 (b ∷ bs)) else None

abbrev pub absent_at : List ℕ → Option (Column × List ℕ)
absent_at text = option_map (λ rest. (Absent, rest)) (behind (codes "NULL") text)

abbrev pub quoted_at : List ℕ → Option (Column × List ℕ)
quoted_at text = option_map (λ read. (Text read.0, read.1)) (behind (39 ∷ []) text >>= quoted false)

abbrev pub cast_at : List ℕ → Option (Column × List ℕ)
cast_at text = do
  digits ← behind (codes "CAST(X'") text
  read ← hex_read digits
  rest ← behind (codes " AS TEXT)") read.1
  Some (Text read.0, rest)

abbrev pub number_at : List ℕ → Option (Column × List ℕ)
number_at text = option_map (λ read. (Whole read.0, read.1)) (number_read text)

-- what the literal at the front of a text says, and what stands behind it
unfoldable pub literal_at : List ℕ → Option (Column × List ℕ)
literal_at text = or_else (absent_at text) (or_else (quoted_at text) (or_else (cast_at text) (number_at text)))

-- what so many literals say, with a comma between two, and what stands behind them; one may stand before them
abbrev pub literals_at : Bool → ℕ → List ℕ → Option (List Column × List ℕ)
literals_at later zero text = Some ([], text)
literals_at later (suc n) text = do
  rest ← behind (if later then 44 ∷ [] else []) text
  first ← literal_at rest
  others ← literals_at true n first.1
  Some (first.0 ∷ others.0, others.1)

-- what the INSERT into this table says that is the first line of a text, of so many columns, and what stands behind it
abbrev pub row_at : TableName → ℕ → List ℕ → Option (List Column × List ℕ)
row_at table count text = do
  values ← behind (codes "INSERT INTO " ++ (name_of table ++ codes " VALUES(")) text
  read ← literals_at false count values
  rest ← behind (codes ");\n") read.1
  Some (read.0, rest)

-- a number of 64 bits, or a text of bytes
abbrev pub IsTold : Column → Type 0
IsTold (Whole n) = n < 2 ^ 64
IsTold (Text text) = AllByRecursion (λ b. b < 256) text
IsTold Absent = Unit {0}

-- the line that puts a row is read as that row
abbrev pub RowsAreRead : Type 0
RowsAreRead =
    (table : TableName) (columns : List Column) (rest : List ℕ) → AllByRecursion IsTold columns
    → row_at table (length columns) (insert_line table columns ++ rest) ≡ Some (columns, rest)

-- ---- a dump that was cut short

-- whether a line of the text begins with COMMIT; the text may begin a line, or go on with one
abbrev pub commits : Bool → List ℕ → Bool
commits begins [] = false
commits begins (b ∷ bs) = (begins && is_some (behind (codes "COMMIT") (b ∷ bs))) || commits (b == 10) bs

-- A dump that lacks more than the end of its last line has no COMMIT: the transaction that its first line begins is never
-- ended, whatever the names in it are.
abbrev pub CutDumpsCommitNothing : Type 0
CutDumpsCommitNothing =
    (s : State) (n : ℕ) → n + 2 < length (dump_text s) → commits true (take n (dump_text s)) ≡ false
