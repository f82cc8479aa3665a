-- Serials as a text lists them.
use Rattle.std.specs.Prelude.{◌≡◌, ◌≤◌, ℕ, List, [], length, Option, Some, None, Ok, Err}
use Rattle.word_core.specs.Serials.{Reading, serials_in}

-- the serials that were read
abbrev pub serials_read : Reading → List (List ℕ)
serials_read (Ok serials) = serials
serials_read (Err fault) = []

-- the serials of a text that is good
abbrev pub listed_by : List ℕ → List (List ℕ)
listed_by text = serials_read (serials_in text)

-- so many serials were read, or why none were
abbrev pub Counts : Reading → Option ℕ → Type 0
Counts (Ok serials) (Some count) = (count ≡ length serials) × (count ≤ 1000)
Counts (Ok serials) None = ⊥
Counts (Err fault) (Some count) = ⊥
Counts (Err fault) None = Unit {0}
