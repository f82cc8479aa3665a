-- What stands twice in a list.
use Rattle.std.specs.Prelude.{Bool, false, ◌||◌, List, [], ◌∷◌}
use Rattle.std.specs.List.{list_any}

-- an element is the same as one behind it
abbrev pub stands_twice : {X : Type 0} → (X → X → Bool) → List X → Bool
stands_twice same [] = false
stands_twice same (x ∷ xs) = list_any (λ y. same y x) xs || stands_twice same xs
