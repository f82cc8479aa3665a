-- Statuses of items.
use Rattle.std.specs.Prelude.{◌≡◌, ℕ, ◌==◌, Bool, true, false, List, [], ◌∷◌, Option, Some, codes, refl}
use Rattle.std.specs.List.{find}
use Rattle.word_core.specs.Named.{named}
use Rattle.word_core.specs.declared.status.Status.{Status}
use Rattle.word_core.specs.declared.status.Status.TheVariants.{Okay, Attention, Damaged, Destroyed}
use Rattle.word_core.specs.declared.status.Status.TheVariants.{Rejected, Lost, Quarantined, Returned}

-- stock is allocatable in these
abbrev pub is_allocatable : Status → Bool
is_allocatable Okay = true
is_allocatable Attention = true
is_allocatable Damaged = true
is_allocatable Returned = true
is_allocatable Destroyed = false
is_allocatable Rejected = false
is_allocatable Lost = false
is_allocatable Quarantined = false

-- the statuses' numbers, no two of which are the same
abbrev pub status_code : Status → ℕ
status_code Okay = 0
status_code Attention = 1
status_code Damaged = 2
status_code Destroyed = 3
status_code Rejected = 4
status_code Lost = 5
status_code Quarantined = 6
status_code Returned = 7

abbrev pub all_statuses : List Status
all_statuses = Okay ∷ Attention ∷ Damaged ∷ Destroyed ∷ Rejected ∷ Lost ∷ Quarantined ∷ Returned ∷ []

-- the status of that number, if there is one
abbrev pub status_of : ℕ → Option Status
status_of n = find (λ s. status_code s == n) all_statuses

-- the statuses' names, as a clerk writes them
abbrev pub status_name : Status → List ℕ
status_name Okay = codes "OK"
status_name Attention = codes "Attention"
status_name Damaged = codes "Damaged"
status_name Destroyed = codes "Destroyed"
status_name Rejected = codes "Rejected"
status_name Lost = codes "Lost"
status_name Quarantined = codes "Quarantined"
status_name Returned = codes "Returned"

-- a status's name is read as the status
pub statuses_told : (s : Status) → named status_name all_statuses (status_name s) ≡ Some s
statuses_told Okay = refl
statuses_told Attention = refl
statuses_told Damaged = refl
statuses_told Destroyed = refl
statuses_told Rejected = refl
statuses_told Lost = refl
statuses_told Quarantined = refl
statuses_told Returned = refl

abbrev pub is_same_status : Status → Status → Bool
is_same_status a b = status_code a == status_code b
