-- A text cut into lines, and a file read as far as it is wanted.
use Rattle.std.specs.Prelude.{◌≡◌, ℕ, ◌<◌, ◌==◌, Bool, true, false, List, [], ◌∷◌, length}
use Rattle.std.specs.Prelude.{take, slice_range, if◌then◌else◌, Option, Some, None}
use Rattle.std.specs.Io.KnownBytes.{prepend_known}
use Rattle.desk_app.specs.declared.lines.Lines.{Lines}

-- the bytes before the first LF, and those after it
abbrev pub first_of : List ℕ → List ℕ
first_of [] = []
first_of (b ∷ bs) = if b == 10 then [] else b ∷ first_of bs

abbrev pub rest_of : List ℕ → List ℕ
rest_of [] = []
rest_of (b ∷ bs) = if b == 10 then bs else rest_of bs

-- what has been read and not taken, and then what the reader has
abbrev pub unread : Lines → List ℕ
unread s = slice_range s.buffer.items s.at s.filled

abbrev pub left : Option (List ℕ) → Lines → Option (List ℕ)
left known s = prepend_known (unread s) known

-- as much of a line as is held: enough to see that it is too long
unfoldable pub held : List ℕ → List ℕ
held line = take 65537 line

-- there is an LF
abbrev pub has_end : List ℕ → Bool
has_end [] = false
has_end (b ∷ bs) = if b == 10 then true else has_end bs

-- a call took the next line of the known bytes, or there was none
abbrev pub TakesLine : Option (List ℕ) → Bool → List ℕ → Option (List ℕ) → Type 0
TakesLine None found line new = Unit {0}
TakesLine (Some xs) found line None = ⊥
TakesLine (Some xs) false line (Some ys) = (xs ≡ []) × (ys ≡ [])
TakesLine (Some xs) true line (Some ys) = (0 < length xs) × (line ≡ held (first_of xs)) × (ys ≡ rest_of xs)

-- as much of a file as shows that it is too long
unfoldable pub enough : List ℕ → List ℕ
enough file = take 16777217 file

-- a call read so much of the known bytes
abbrev pub ReadsFile : Option (List ℕ) → List ℕ → Type 0
ReadsFile None bytes = Unit {0}
ReadsFile (Some file) bytes = bytes ≡ enough file
