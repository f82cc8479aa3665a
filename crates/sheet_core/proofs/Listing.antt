-- Lists of keys, each once.
use Rattle.std.proofs.Common.{◌≡◌, ℕ, Bool, true, false, ◌||◌, List, [], ◌∷◌, ◌++◌, refl, sym, ap, ◌∙◌}
use Rattle.sheet_core.specs.Sheet.{is_listed, IsEachOnce}
use Rattle.sheet_core.proofs.Keys.{key_eq, key_eq-other, key_eq-false}

or_false : (a b : Bool) → (a || b) ≡ false → (a ≡ false) × (b ≡ false)
or_false true b e = cc
or_false false b e = (refl, e)

or_none : (a b : Bool) → a ≡ false → b ≡ false → (a || b) ≡ false
or_none true b e h = cc
or_none false b e h = h

key_eq-turn : (a b : List ℕ) → key_eq a b ≡ false → key_eq b a ≡ false
key_eq-turn a b e = key_eq-other b a (λ s. key_eq-false a b e (sym s))

pub is_listed-push : (q k : List ℕ) (ks : List (List ℕ)) → is_listed q (ks ++ k ∷ []) ≡ (is_listed q ks || key_eq k q)
is_listed-push q k [] = elim (key_eq k q) as (λ b. (b || false) ≡ b) [ true ↦ refl | false ↦ refl ]
is_listed-push q k (x ∷ ks) =
    ap (λ b. key_eq x q || b) (is_listed-push q k ks) ∙ assoc (key_eq x q) (is_listed q ks) (key_eq k q)
  where
    assoc : (a b c : Bool) → (a || (b || c)) ≡ ((a || b) || c)
    assoc true b c = refl
    assoc false b c = refl

pub IsEachOnce-push : (k : List ℕ) (ks : List (List ℕ)) → IsEachOnce ks → is_listed k ks ≡ false
    → IsEachOnce (ks ++ k ∷ [])
IsEachOnce-push k [] once new = (refl, tt)
IsEachOnce-push k (x ∷ ks) once new =
    let parts = or_false (key_eq x k) (is_listed k ks) new in (
      is_listed-push x k ks ∙ or_none (is_listed x ks) (key_eq k x) once.0 (key_eq-turn x k parts.0),
      IsEachOnce-push k ks once.1 parts.1,
    )

-- what is listed stays listed, and what was pushed is listed
pub is_listed-pushed : (q k : List ℕ) (ks : List (List ℕ)) → is_listed q (ks ++ k ∷ []) ≡ false
    → (is_listed q ks ≡ false) × (key_eq k q ≡ false)
is_listed-pushed q k ks e = or_false (is_listed q ks) (key_eq k q) (sym (is_listed-push q k ks) ∙ e)
