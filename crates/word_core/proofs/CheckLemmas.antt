-- The first of some conditions that refuses, and where none does.
use Rattle.std.proofs.Common.{◌≡◌, Bool, true, false, List, [], ◌∷◌, ◌++◌, Some, None, refl}
use Rattle.std.specs.Prelude.{◌==◌, if◌then◌else◌}
use Rattle.word_core.specs.Checks.{Check, first}
use Rattle.word_core.specs.Refusal.{rank}
use Rattle.word_core.specs.declared.refusal.Refusal.{Refusal}

-- the condition that gives a refusal, and false where none does
abbrev pub condition_of : Refusal → List Check → Bool
condition_of x [] = false
condition_of x (c ∷ cs) = if rank c.1 == rank x then c.0 else condition_of x cs

-- no condition holds, whichever refusal it gives
abbrev pub NoneHolds : List Check → Type 0
NoneHolds checks = (x : Refusal) → condition_of x checks ≡ false

-- where no refusal is given, no condition holds
pub none-holds : (cs : List Check) → first cs ≡ None → NoneHolds cs
none-holds [] e x = refl
none-holds ((true, y) ∷ cs) e x = cc
none-holds ((false, y) ∷ cs) e x = pick (rank y == rank x) (none-holds cs e x)
  where
    pick : (b : Bool) → condition_of x cs ≡ false → (if b then false else condition_of x cs) ≡ false
    pick true h = refl
    pick false h = h

-- the first refusal is still the first where more conditions follow
pub first-before : (cs ds : List Check) (x : Refusal) → first cs ≡ Some x → first (cs ++ ds) ≡ Some x
first-before [] ds x e = cc
first-before ((true, y) ∷ cs) ds x e = e
first-before ((false, y) ∷ cs) ds x e = first-before cs ds x e

-- where no refusal is given, none is where fewer conditions are asked
pub none-before : (cs ds : List Check) → first (cs ++ ds) ≡ None → first cs ≡ None
none-before [] ds e = refl
none-before ((true, x) ∷ cs) ds e = e
none-before ((false, x) ∷ cs) ds e = none-before cs ds e
