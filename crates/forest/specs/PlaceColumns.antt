-- Places, kinds and reasons as numbers of a file.
use Rattle.std.specs.Prelude.{ℕ, ◌+◌, ◌==◌, List, [], ◌∷◌, Option, Some, None, if◌then◌else◌}
use Rattle.std.specs.List.{find}
use Rattle.sheet_core.specs.declared.column.Column.{Column}
use Rattle.sheet_core.specs.Columns.{◌>>=◌, number_at, must}
use Rattle.forest.specs.Forest.{kind_code}
use Rattle.forest.specs.declared.entry.Kind.{Kind}
use Rattle.forest.specs.declared.entry.Kind.TheVariants.{Received, Found, Built, Consumed, Shipped, Returned}
use Rattle.forest.specs.declared.entry.Kind.TheVariants.{Written, Moved, Cut, Poured, Installed, TakenOut, Marked}
use Rattle.forest.specs.declared.place.Place.{Place}
use Rattle.forest.specs.declared.place.Place.TheVariants.{At, In, Output, Sent, Used, Off, Gone}
use Rattle.forest.specs.declared.place.Reason.{Reason}
use Rattle.forest.specs.declared.place.Reason.TheVariants.{Removed, Counted, Disassembled, Scrapped}

-- ---- reasons

abbrev pub reason_code : Reason → ℕ
reason_code Removed = 0
reason_code Counted = 1
reason_code Disassembled = 2
reason_code Scrapped = 3

abbrev pub all_reasons : List Reason
all_reasons = Removed ∷ Counted ∷ Disassembled ∷ Scrapped ∷ []

-- the reason of that number, if there is one
abbrev pub reason_of : ℕ → Option Reason
reason_of n = find (λ r. reason_code r == n) all_reasons

-- ---- places

abbrev pub place_code : Place → ℕ
place_code (At n) = 0
place_code (In n) = 1
place_code (Output n) = 2
place_code (Sent n) = 3
place_code (Used n) = 4
place_code (Off r) = 5
place_code Gone = 6

-- the number that goes with a place: that of what it names, and 0 for what is gone
abbrev pub place_ref : Place → ℕ
place_ref (At n) = n
place_ref (In n) = n
place_ref (Output n) = n
place_ref (Sent n) = n
place_ref (Used n) = n
place_ref (Off r) = reason_code r
place_ref Gone = 0

abbrev pub off_of : ℕ → Option Place
off_of ref = do
  reason ← reason_of ref
  Some (Off reason)

abbrev pub gone_of : ℕ → Option Place
gone_of ref = do
  none ← must (ref == 0)
  Some Gone

-- the place of two numbers, if there is one
abbrev pub place_of : ℕ → ℕ → Option Place
place_of code ref =
    if code == 0 then Some (At ref)
    else (if code == 1 then Some (In ref)
    else (if code == 2 then Some (Output ref)
    else (if code == 3 then Some (Sent ref)
    else (if code == 4 then Some (Used ref)
    else (if code == 5 then off_of ref
    else (if code == 6 then gone_of ref
    else None))))))

-- the place in a column and the one after it
abbrev pub place_at : ℕ → List Column → Option Place
place_at i columns = do
  code ← number_at i columns
  ref ← number_at (i + 1) columns
  place_of code ref

-- ---- kinds

abbrev pub all_kinds : List Kind
all_kinds =
    Received ∷ Found ∷ Built ∷ Consumed ∷ Shipped ∷ Returned ∷ Written ∷ Moved ∷ Cut ∷ Poured ∷ Installed ∷ TakenOut
    ∷ Marked ∷ []

-- the kind of that number, if there is one
abbrev pub kind_of : ℕ → Option Kind
kind_of n = find (λ k. kind_code k == n) all_kinds

abbrev pub kind_at : ℕ → List Column → Option Kind
kind_at i columns = do
  code ← number_at i columns
  kind_of code
