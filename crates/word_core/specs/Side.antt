-- Sides of orders.
use Rattle.std.specs.Prelude.{◌≡◌, ℕ, ◌==◌, Bool, true, false, List, [], ◌∷◌, Option, Some, codes, refl}
use Rattle.std.specs.List.{find}
use Rattle.word_core.specs.Named.{named}
use Rattle.word_core.specs.declared.side.Side.{Side}
use Rattle.word_core.specs.declared.side.Side.TheVariants.{Purchase, Sale}

-- stock goes by it
abbrev pub is_sale : Side → Bool
is_sale Purchase = false
is_sale Sale = true

-- the sides' numbers, no two of which are the same
abbrev pub side_code : Side → ℕ
side_code Purchase = 0
side_code Sale = 1

abbrev pub all_sides : List Side
all_sides = Purchase ∷ Sale ∷ []

-- the side of that number, if there is one
abbrev pub side_of : ℕ → Option Side
side_of n = find (λ s. side_code s == n) all_sides

-- the sides' names, as a clerk writes them
abbrev pub side_name : Side → List ℕ
side_name Purchase = codes "purchase"
side_name Sale = codes "sale"

-- a side's name is read as the side
pub sides_told : (s : Side) → named side_name all_sides (side_name s) ≡ Some s
sides_told Purchase = refl
sides_told Sale = refl
