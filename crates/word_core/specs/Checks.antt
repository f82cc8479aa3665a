-- The conditions of a command's refusals, and the refusal that they give.
use Rattle.std.specs.Prelude.{◌<◌, Bool, true, false, List, [], ◌∷◌, Option, Some, None}
use Rattle.word_core.specs.declared.refusal.Refusal.{Refusal}
use Rattle.word_core.specs.Refusal.{rank}

-- a condition, and what a command is refused as where it holds
abbrev pub Check : Type 0
Check = Bool × Refusal

-- the first refusal whose condition holds
abbrev pub first : List Check → Option Refusal
first [] = None
first (c ∷ cs) = if_true c.0 (Some c.1) (first cs)
  where
    if_true : Bool → Option Refusal → Option Refusal → Option Refusal
    if_true true x y = x
    if_true false x y = y

-- the conditions stand in the one order of checks
abbrev pub AreInOrder : List Check → Type 0
AreInOrder [] = Unit {0}
AreInOrder (c ∷ []) = Unit {0}
AreInOrder (c ∷ d ∷ cs) = (rank c.1 < rank d.1) × AreInOrder (d ∷ cs)
