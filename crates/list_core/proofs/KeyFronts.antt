-- The front of a key is text.
use Rattle.std.proofs.Common.{◌≡◌, ◌<◌, ℕ, zero, suc, Bool, true, false, List, [], ◌∷◌, arith, length, slice_index, take}
use Rattle.std.proofs.Common.{refl}
use Rattle.std.specs.Prelude.{◌&&◌, nat_le, nat_lt}
use Rattle.std.specs.List.{list_all}
use Rattle.std.specs.Str.{IsAscii, IsUtf8}
use Rattle.std.proofs.lemmas.Bool.Decides.{nat_tests}
use Rattle.std.proofs.lemmas.Str.{IsUtf8-from_ascii}
use Rattle.desk_core.specs.Key.{is_key, is_visible}

low : (b : ℕ) → is_visible b ≡ true → b < 128
low b h = grind (arith, nat_tests)

ascii : (s : List ℕ) → list_all is_visible s ≡ true → IsAscii s
ascii [] h i = omega arith
ascii (b ∷ s) h i = by (is_visible b) refl h (ascii s) i
  where
    by : (c : Bool) → is_visible b ≡ c → (c && list_all is_visible s) ≡ true
        → (list_all is_visible s ≡ true → IsAscii s) → (i : ℕ) → slice_index (b ∷ s) i < 128
    by false q h' ih i = absurd (cc)
    by true q h' ih zero = low b q
    by true q h' ih (suc i) = ih h' i

all-take : (n : ℕ) (s : List ℕ) → list_all is_visible s ≡ true → list_all is_visible (take n s) ≡ true
all-take zero s h = refl
all-take (suc n) [] h = refl
all-take (suc n) (b ∷ s) h = by (is_visible b) h (all-take n s)
  where
    by : (c : Bool) → (c && list_all is_visible s) ≡ true
        → (list_all is_visible s ≡ true → list_all is_visible (take n s) ≡ true)
        → (c && list_all is_visible (take n s)) ≡ true
    by true e rest = rest e
    by false e rest = absurd (cc)

pub front_is_text : (n : ℕ) (s : List ℕ) → is_key s ≡ true → IsUtf8 (take n s)
front_is_text n s h =
    IsUtf8-from_ascii (take n s) (ascii (take n s) (all-take n s (by (nat_lt 0 (length s)) (nat_le (length s) 80) h)))
  where
    by : (c d : Bool) → (c && d && list_all is_visible s) ≡ true → list_all is_visible s ≡ true
    by true true e = e
    by true false e = absurd (cc)
    by false d e = absurd (cc)
