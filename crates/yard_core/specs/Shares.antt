-- Equations between sums, part by part.
use Rattle.std.specs.Prelude.{◌≡◌, ℕ, ◌+◌, ◌==◌, if◌then◌else◌, List, [], ◌∷◌, Option, Some, None}
use Rattle.std.specs.BTreeMap as tree
use Rattle.std.specs.Ordering.{nat_cmp}
use Rattle.yard_core.specs.declared.opening.shares.Share.{Share}
use Rattle.yard_core.specs.declared.opening.shares.Total.{Total}

-- what the rows of a part add to the left side
abbrev pub lefts : ℕ → List Share → ℕ
lefts p [] = 0
lefts p (s ∷ ss) = (if s.part == p then s.left else 0) + lefts p ss

-- what the rows of a part add to the right side
abbrev pub rights : ℕ → List Share → ℕ
rights p [] = 0
rights p (s ∷ ss) = (if s.part == p then s.right else 0) + rights p ss

-- for each part the two sides are the same
abbrev pub Agree : List Share → Type 0
Agree ss = (p : ℕ) → lefts p ss ≡ rights p ss

-- what a table has for a part, and nothing where it has none
abbrev pub total_or_none : Option Total → Total
total_or_none None = record { left = 0; right = 0 }
total_or_none (Some t) = t

-- a table has what the shares add to the two sides for each part
pub record AreTotals (totals : tree.BTreeMap ℕ Total) (ss : List Share) : Type 0 where
  pub left : (p : ℕ) → (total_or_none (tree.get nat_cmp totals p)).left ≡ lefts p ss
  pub right : (p : ℕ) → (total_or_none (tree.get nat_cmp totals p)).right ≡ rights p ss
