-- A test of lines that are borrowed.
use Rattle.std.proofs.Common.{◌≡◌, Bool, ◌||◌, List, [], ◌∷◌, map, refl, ap}
use Rattle.std.specs.Borrow.{Bor}
use Rattle.std.specs.List.{list_any}

pub any-seen : {X : Type 0} (p : X → Bool) (xs : List (Bor X))
    → list_any (λ x. p x.now) xs ≡ list_any p (map (λ x. x.now) xs)
any-seen p [] = refl
any-seen p (x ∷ xs) = ap (λ b. p x.now || b) (any-seen p xs)
