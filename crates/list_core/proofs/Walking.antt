-- How a walk goes on.
use Rattle.std.proofs.Common.{◌≡◌, ◌-◌, ◌+◌, ◌<◌, ◌++◌, ℕ, suc, zero, List, [], ◌∷◌, Some, arith, refl, ap, drop, length, length-drop}
use Rattle.desk_core.specs.Machine.{State}
use Rattle.list_core.specs.Trace.{step_to, visits_after, walk_from}
use Rattle.list_core.specs.declared.walk.Direction.{Direction}
use Rattle.list_core.specs.declared.walk.Step.{Step}
use Rattle.list_core.specs.declared.walk.Visit.{Visit}

-- it is done where nothing is to be visited
pub walk_done : (n : ℕ) (d : Direction) (s : State) (steps : List Step) → walk_from n d s steps [] ≡ Some steps
unfolding walk_from
walk_done zero d s steps = refl
walk_done (suc n) d s steps = refl

-- else there is a step more
pub walk_more : (m i : ℕ) (d : Direction) (s : State) (steps : List Step) (v : Visit) (rest : List Visit) → i < m
    → walk_from (m - i) d s steps (v ∷ rest)
    ≡ walk_from (m - (i + 1)) d s (steps ++ step_to v steps ∷ []) (visits_after d s (step_to v steps) ++ rest)
unfolding walk_from
walk_more m i d s steps v rest h =
    let left : m - i ≡ suc (m - (i + 1)) = omega arith in
    ap (λ k. walk_from k d s steps (v ∷ rest)) left

-- what is the same without its first element has none
pub none_left : {X : Type 0} (xs : List X) → xs ≡ drop 1 xs → xs ≡ []
none_left [] e = refl
none_left (x ∷ xs) e = absurd (omega (arith, ap length e, length-drop 1 (x ∷ xs)))
