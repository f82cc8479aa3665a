-- Known bytes, as they are written.
use Rattle.std.proofs.Common.{◌≡◌, ◌+◌, ◌-◌, ◌≤◌, ℕ, zero, suc, List, [], ◌∷◌, ◌++◌, take, drop, refl, subst, sym, ap}
use Rattle.std.proofs.Common.{◌∙◌, length, arith, append-nil, take-add, length-drop, length-append}
use Rattle.std.specs.Prelude.{Option, Result, Ok, Err, OnErr}
use Rattle.std.specs.Io.KnownBytes.{Appends}
use Rattle.std.proofs.KnownBytes.{Appends-nil, Appends-trans}
use Rattle.std.proofs.lemmas.List.{take_all, take-append-le}
use Rattle.desk_store.specs.Exports.{AppendsFront}

-- the slice from an index on
pub from_index : (t : List ℕ) (at : ℕ) → take (length t - at) (drop at t) ≡ drop at t
from_index t at = take_all (length t - at) (drop at t) (omega (arith, length-drop at t))

pub sent_more : (a b c : Option (List ℕ)) (t : List ℕ) (at n : ℕ) → Appends a b (take at t)
    → Appends b c (take n (take (length t - at) (drop at t))) → Appends a c (take (at + n) t)
sent_more a b c t at n p q =
    subst (Appends a c) (sym (take-add at n t))
    (Appends-trans a b c _ _ p (subst (λ l. Appends b c (take n l)) (from_index t at) q))

take-onto : (s t : List ℕ) (n : ℕ) → take (length s + n) (s ++ t) ≡ s ++ take n t
take-onto [] t n =
    let e : length {A = ℕ} [] + n ≡ n = omega arith in
    ap (λ k. take k t) e
take-onto (x ∷ s) t n =
    let e : length (x ∷ s) + n ≡ suc (length s + n) = omega arith in
    ap (λ k. take k (x ∷ (s ++ t))) e ∙ ap (λ l. x ∷ l) (take-onto s t n)

-- a text, and then a front of what comes next
pub front-then : (a b c : Option (List ℕ)) (s t rest : List ℕ) → Appends a b s → AppendsFront b c t
    → AppendsFront a c (s ++ (t ++ rest))
front-then a b c s t rest p (n, low, q) = (
  length s + n,
  omega (arith, low, length-append s (t ++ rest), length-append t rest),
  subst (Appends a c) (sym (take-onto s (t ++ rest) n ∙ ap (λ l. s ++ l) (take-append-le n t rest low)))
      (Appends-trans a b c s (take n t) p q),
)

-- the front of a text is a front of what begins with it
pub front-first : (a b : Option (List ℕ)) (t rest : List ℕ) → AppendsFront a b t → AppendsFront a b (t ++ rest)
front-first a b t rest h = front-then a a b [] t rest (Appends-nil a) h

-- a text that was written is a front of what begins with it
pub front-sent : (a b : Option (List ℕ)) (s rest : List ℕ) → Appends a b s → AppendsFront a b (s ++ rest)
front-sent a b s rest p = (
  length s,
  omega (arith, length-append s rest),
  subst (Appends a b) (sym (take-append-le (length s) s rest (omega arith) ∙ take_all (length s) s (omega arith))) p,
)

pub nothing-sent : (a : Option (List ℕ)) (t : List ℕ) → AppendsFront a a t
nothing-sent a t = (0, omega arith, Appends-nil a)
