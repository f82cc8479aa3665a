-- Keys tie only where they are equal.
use Rattle.std.proofs.Common.{◌≡◌, ◌≢◌, ℕ, Bool, true, false, List, refl, sym, ap, ◌∙◌}
use Rattle.std.specs.declared.cmp.Ordering.TheVariants.{Less, Equal, Greater}
use Rattle.std.specs.Ordering.{eq_by_cmp, is_eq}
use Rattle.std.specs.Cmp.{IsTotalOrder, tied_itself}
use Rattle.std.specs.Cmp.Lexicographic.{nat_list_cmp_total}
use Rattle.std.specs.FinMap.{IsAntisymmetric, slice_cmp-IsAntisymmetric, nat_cmp-IsAntisymmetric}
use Rattle.sheet_core.specs.Sheet.{key_cmp}

abbrev pub key_eq : List ℕ → List ℕ → Bool
key_eq = eq_by_cmp key_cmp

pub keys_total : IsTotalOrder key_cmp
keys_total = nat_list_cmp_total

pub keys_exact : IsAntisymmetric key_cmp
keys_exact = slice_cmp-IsAntisymmetric nat_cmp-IsAntisymmetric

pub key_eq-self : (k : List ℕ) → key_eq k k ≡ true
key_eq-self k = ap is_eq (tied_itself keys_total k)

pub key_eq-true : (a b : List ℕ) → key_eq a b ≡ true → a ≡ b
key_eq-true a b =
    elim (key_cmp a b) as (λ r. key_cmp a b ≡ r → is_eq r ≡ true → a ≡ b) [
      | Less ↦ λ p e. cc
      | Equal ↦ λ p e. keys_exact a b p
      | Greater ↦ λ p e. cc
    ] refl

pub key_eq-other : (a b : List ℕ) → a ≢ b → key_eq a b ≡ false
key_eq-other a b other =
    elim (key_eq a b) as (λ r. key_eq a b ≡ r → r ≡ false) [
      | true ↦ λ p. absurd (other (key_eq-true a b p))
      | false ↦ λ p. refl
    ] refl

pub key_eq-same : (a b : List ℕ) → a ≡ b → key_eq a b ≡ true
key_eq-same a b e = ap (key_eq a) (sym e) ∙ key_eq-self a

pub key_eq-false : (a b : List ℕ) → key_eq a b ≡ false → a ≢ b
key_eq-false a b p e = let q : key_eq a b ≡ true = key_eq-same a b e in cc

-- a test that holds exactly where two texts are equal is `key_eq`
pub key_eq_is : (b : Bool) (x y : List ℕ) → (b ≡ true → x ≡ y) → (x ≡ y → b ≡ true) → b ≡ key_eq x y
key_eq_is true x y to from = sym (key_eq-same x y (to refl))
key_eq_is false x y to from = sym (key_eq-other x y (λ e. let q = from e in cc))
