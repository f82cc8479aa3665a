-- Serials that new items are to have.
use Rattle.std.specs.Prelude.{ℕ, Bool, false, ◌==◌, ◌||◌, not, nat_lt, List, length, Option, Some, None}
use Rattle.std.specs.List.{list_any}
use Rattle.std.specs.Str.{bytes_eq}
use Rattle.part_core.specs.Catalogue.{Parts}
use Rattle.word_core.specs.Twice.{stands_twice}
use Rattle.yard_core.specs.Stock.{Stock, is_serial_free}

-- whether there are serials, and they are so
abbrev pub given : (List (List ℕ) → Bool) → Option (List (List ℕ)) → Bool
given test None = false
given test (Some serials) = test serials

-- a command names at most 1,000 serials
abbrev pub are_many : List (List ℕ) → Bool
are_many serials = nat_lt 1000 (length serials)

-- there are more or fewer serials than pieces
abbrev pub is_other_count : ℕ → List (List ℕ) → Bool
is_other_count quantity serials = not (length serials == quantity)

-- a serial of the list is held in the part's family
abbrev pub is_one_held : ℕ → Parts → Stock → List (List ℕ) → Bool
is_one_held part parts s serials = list_any (λ x. not (is_serial_free x part parts s)) serials

-- a serial stands twice in the list, or is held in the part's family
abbrev pub are_taken : ℕ → Parts → Stock → List (List ℕ) → Bool
are_taken part parts s serials = stands_twice bytes_eq serials || is_one_held part parts s serials
