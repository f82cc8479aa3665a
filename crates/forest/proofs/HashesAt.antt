-- The hash of the index key at a place, where there is one.
use Rattle.std.proofs.Common.{◌≡◌, ℕ, suc, zero, List, [], ◌∷◌, map, refl}
use Rattle.std.specs.Prelude.{option_map, slice_get}

pub hashed_at : (f : ℕ → ℕ) (ks : List ℕ) (i : ℕ) → slice_get (map f ks) i ≡ option_map f (slice_get ks i)
hashed_at f [] i = refl
hashed_at f (k ∷ ks) zero = refl
hashed_at f (k ∷ ks) (suc i) = hashed_at f ks i
