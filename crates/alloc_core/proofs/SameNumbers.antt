-- Numbers that may be absent are the same exactly where they are equal.
use Rattle.std.proofs.Common.{◌≡◌, ℕ, true, Option, Some, None, refl, ap}
use Rattle.std.proofs.lemmas.Bool.{eqb-true, eq-eqb}
use Rattle.word_core.specs.Numbered.{is_same_number}

pub same-number : (a b : Option ℕ) → is_same_number a b ≡ true → a ≡ b
same-number None None e = refl
same-number None (Some n) e = cc
same-number (Some m) None e = cc
same-number (Some m) (Some n) e = ap Some (eqb-true m n e)

pub number-same : (a : Option ℕ) → is_same_number a a ≡ true
number-same None = refl
number-same (Some n) = eq-eqb n n refl
