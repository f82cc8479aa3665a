-- Tables of rows that are put one after another, each under its own key.
use Rattle.std.specs.Prelude.{◌≡◌, ℕ, List, [], ◌∷◌, Some}
use Rattle.std.specs.FinMap as table
use Rattle.sheet_core.specs.Sheet.{Table}

module _ {X : Type 0} (key_of : X → List ℕ) where
  -- the table with these rows put too, in their order
  abbrev pub filled_onto : Table X → List X → Table X
  filled_onto t [] = t
  filled_onto t (x ∷ xs) = filled_onto (table.insert t (key_of x) x) xs

  -- the table of these rows: of several under one key it has the last
  abbrev pub filled : List X → Table X
  filled rows = filled_onto table.empty rows

  -- each row stands under its own key
  abbrev pub StandUnderKeys : Table X → Type 0
  StandUnderKeys t = (k : List ℕ) (x : X) → table.get t k ≡ Some x → k ≡ key_of x
