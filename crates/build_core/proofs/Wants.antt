-- Rows that are lent, picked and told as the rows themselves.
use Rattle.std.proofs.Common.{◌≡◌, Bool, true, false, cond, List, [], ◌∷◌, map, Bor, refl, ap}
use Rattle.std.specs.Prelude.{filter}

module _ {X Y : Type 0} (f : X → Y) (p : X → Bool) where
  pub told-lent : (rs : List (Bor X))
      → map (λ r. f r.now) (filter (λ r. p r.now) rs) ≡ map f (filter p (map (λ r. r.now) rs))
  told-lent [] = refl
  told-lent (r ∷ rs) = go (p r.now) (told-lent rs)
    where
      go : (b : Bool) → map (λ s. f s.now) (filter (λ s. p s.now) rs) ≡ map f (filter p (map (λ s. s.now) rs))
          → map (λ s. f s.now) (cond b (r ∷ filter (λ s. p s.now) rs) (filter (λ s. p s.now) rs))
          ≡ map f (cond b (r.now ∷ filter p (map (λ s. s.now) rs)) (filter p (map (λ s. s.now) rs)))
      go true rest = ap (λ l. f r.now ∷ l) rest
      go false rest = rest
