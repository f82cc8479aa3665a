-- What holds of the rows of a table.
use Rattle.std.specs.Prelude.{◌≡◌, ◌<◌, ◌≤◌, ℕ, List, [], ◌∷◌, Some, IsSome}
use Rattle.std.specs.FinMap as table
use Rattle.sheet_core.specs.Sheet.{Table}

module _ {X : Type 0} where
  -- what holds of each row
  abbrev pub EachRow : (X → Type 0) → Table X → Type 0
  EachRow P t = (k : List ℕ) (x : X) → table.get t k ≡ Some x → P x

  -- the table has a row of that number
  abbrev pub IsThere : Table X → ℕ → Type 0
  IsThere t n = IsSome (table.get t (n ∷ []))

  -- a row stands under its own number, which is at least 1 and was drawn
  pub record StandsRight (number : X → ℕ) (next : ℕ) (k : List ℕ) (x : X) : Type 0 where
    pub own : k ≡ number x ∷ []
    pub some : 1 ≤ number x
    pub drawn : number x < next

  -- each row does
  abbrev pub StandRight : (X → ℕ) → ℕ → Table X → Type 0
  StandRight number next t = (k : List ℕ) (x : X) → table.get t k ≡ Some x → StandsRight number next k x

  -- each key that had a row has one
  abbrev pub StayThere : Table X → Table X → Type 0
  StayThere old new = (k : List ℕ) → IsSome (table.get old k) → IsSome (table.get new k)
