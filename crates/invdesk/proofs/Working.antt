-- Work on a desk that is wrapped for it.
use Rattle.std.proofs.Common.{◌≡◌, sym, subst}

-- what holds of the desk inside, before and after, holds of the desk that was wrapped and of the one that was unwrapped
pub along : {A : Type 0} (old new inside after : A) (P : A → A → Type 0) → inside ≡ old → new ≡ after → P inside after
    → P old new
along old new inside after P was is h = subst (λ v. P v new) was (subst (P inside) (sym is) h)
