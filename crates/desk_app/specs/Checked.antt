-- A run that looks at all lines before the first is run.
use Rattle.std.specs.Prelude.{◌≡◌, ℕ, ◌+◌, ◌++◌, ◌&&◌, length, nat_le, Bool, true, false, List, [], ◌∷◌}
use Rattle.std.specs.Prelude.{Option, Some, None, is_none, Result, Ok, Err, if◌then◌else◌}
use Rattle.std.specs.Io.KnownBytes.{Appends, Keeps}
use Rattle.part_core.specs.declared.found.Found.TheVariants.{One}
use Rattle.desk_core.specs.Naming.{Naming}
use Rattle.desk_store.specs.Exports.{AppendsFront}
use Rattle.desk_wire.specs.declared.fault.What.{What}
use Rattle.desk_wire.specs.declared.fault.What.TheVariants.{TooLong}
use Rattle.desk_wire.specs.declared.read.Wish.{Wish}
use Rattle.desk_wire.specs.Reading as reading
use Rattle.desk_wire.specs.Writing.{fault_text}
use Rattle.desk_core.specs.declared.end.RunEnd.{RunEnd}
use Rattle.desk_core.specs.declared.end.RunEnd.TheVariants.{Done, ReadFailed, WriteFailed, Memory, Store}
use Rattle.desk_app.specs.Runs.{is_blank, lines_of}

-- ---- one line

-- each name is taken to be one of a row
abbrev pub anything : Naming
anything = record {
  part = λ name. One 1;
  category = λ parent name. One 1;
  location = λ parent name. One 1;
  item = λ part serial. One 1;
  made = λ key. One 1;
}

-- Where rows may be named, a line may name one that a line before it makes. So which row a name calls is known only as the
-- line is run, and before that each name is taken to be one of a row.
abbrev pub naming_ahead : Bool → Option Naming
naming_ahead names = if names then Some anything else None

-- what is wrong with what was read, if anything is
abbrev pub wrong_in : Result Wish What → Option What
wrong_in (Ok wish) = None
wrong_in (Err what) = Some what

-- the fault of a line, as far as it is known before any line is run
unfoldable pub fault_of : Bool → List ℕ → Option What
fault_of names line = if is_blank line then None else wrong_in (reading.line (naming_ahead names) line)

-- how the fault of the line of that number is told
abbrev pub told_of : ℕ → Option What → List ℕ
told_of number None = []
told_of number (Some what) = fault_text (record { line = number; what = what })

-- ---- many lines, of which the first has the number

-- the faults of all that have one, in their order
abbrev pub faults_out : Bool → ℕ → List (List ℕ) → List ℕ
faults_out names number [] = []
faults_out names number (l ∷ ls) = told_of number (fault_of names l) ++ faults_out names (number + 1) ls

-- none has a fault
abbrev pub are_readable : Bool → List (List ℕ) → Bool
are_readable names [] = true
are_readable names (l ∷ ls) = is_none (fault_of names l) && are_readable names ls

-- ---- a text

-- it isn't too long to be looked at
abbrev pub is_short : List ℕ → Bool
is_short text = nat_le (length text) 16777216

-- what is told of a text before any of its lines is run: its faults, or of one that is too long that it is
abbrev pub text_faults : Bool → List ℕ → List ℕ
text_faults names text =
    if is_short text then faults_out names 1 (lines_of text) else fault_text (record { line = 0; what = TooLong })

-- nothing is told of it, and its lines may be run
abbrev pub is_readable : Bool → List ℕ → Bool
is_readable names text = is_short text && are_readable names (lines_of text)

-- these faults were told, or a front of them where the writer failed; nothing was where memory ran out or the books were
-- closed
abbrev pub TellsFaults : List ℕ → Option (List ℕ) → Option (List ℕ) → RunEnd → Type 0
TellsFaults faults w w' (Done all) = (all ≡ false) × Appends w w' faults
TellsFaults faults w w' WriteFailed = AppendsFront w w' faults
TellsFaults faults w w' Memory = Keeps w w'
TellsFaults faults w w' Store = Keeps w w'
TellsFaults faults w w' ReadFailed = ⊥
