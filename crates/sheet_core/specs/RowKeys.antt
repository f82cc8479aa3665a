-- Keys of rows, as lists of numbers.
use Rattle.std.specs.Prelude.{◌≡◌, ◌↔◌, ℕ, List, [], ◌∷◌, nat_eq, IsTrue, String, string_bytes}
use Rattle.std.specs.String.{string_eq}
use Rattle.std.specs.declared.alloc.Global.{Global}
use Rattle.std.proofs.Common.{ap, get_or}
use Rattle.std.proofs.lemmas.Bool.{eqb-true, eq-eqb}
use Rattle.std.proofs.lemmas.Slice.Eq.{bytes_eq-Decides}

-- a number is a key of one digit
abbrev pub number_digits : ℕ → List ℕ
number_digits n = n ∷ []

-- numbers are equal exactly where their keys are
pub number_exact : (a b : ℕ) → IsTrue (nat_eq a b) ↔ (number_digits a ≡ number_digits b)
number_exact a b = (λ e. ap number_digits (eqb-true a b e), λ e. eq-eqb a b (ap (λ (xs : List ℕ). get_or xs 0 0) e))

-- a text is a key of its bytes
abbrev pub text_digits : String Global → List ℕ
text_digits text = string_bytes text

-- texts are equal exactly where their bytes are
pub text_exact : (a b : String Global) → IsTrue (string_eq a b) ↔ (text_digits a ≡ text_digits b)
text_exact a b = bytes_eq-Decides (string_bytes a) (string_bytes b)
