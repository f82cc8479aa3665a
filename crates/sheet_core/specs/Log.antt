-- Rows that are numbered without gaps, as a log has them.
use Rattle.std.specs.Prelude.{◌≡◌, ℕ, ◌+◌, ◌≤◌, List, [], ◌∷◌, length}

module _ {X : Type 0} (key_of : X → List ℕ) where
  -- the rows are numbered from n without gaps
  abbrev pub AreNumbered : ℕ → List X → Type 0
  AreNumbered n [] = Unit {0}
  AreNumbered n (x ∷ xs) = (key_of x ≡ n ∷ []) × AreNumbered (n + 1) xs

  -- the rows are numbered from 1 without gaps, and so many of them, at the front, were there before the request
  pub record IsSound (rows : List X) (length_before : ℕ) : Type 0 where
    pub numbered : AreNumbered 1 rows
    pub front : length_before ≤ length rows
