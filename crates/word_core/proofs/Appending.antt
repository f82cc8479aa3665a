-- Known bytes, as they are written.
use Rattle.std.proofs.Common.{◌≡◌, ◌+◌, ◌-◌, ℕ, List, ◌++◌, take, drop, subst, sym, length, arith}
use Rattle.std.proofs.Common.{take-add, length-drop, length-append}
use Rattle.std.specs.Prelude.{Option}
use Rattle.std.specs.Io.KnownBytes.{Appends}
use Rattle.std.proofs.KnownBytes.{Appends-nil, Appends-trans}
use Rattle.std.proofs.Math.Seq.{take-append-add}
use Rattle.std.proofs.lemmas.List.{take_all, take-append-le}
use Rattle.word_core.specs.Sending.{AppendsFront}

-- the slice from an index on
pub from_index : (t : List ℕ) (at : ℕ) → take (length t - at) (drop at t) ≡ drop at t
from_index t at = take_all (length t - at) (drop at t) (omega (arith, length-drop at t))

pub sent_more : (a b c : Option (List ℕ)) (t : List ℕ) (at n : ℕ) → Appends a b (take at t)
    → Appends b c (take n (take (length t - at) (drop at t))) → Appends a c (take (at + n) t)
sent_more a b c t at n p q =
    subst (Appends a c) (sym (take-add at n t))
    (Appends-trans a b c _ _ p (subst (λ l. Appends b c (take n l)) (from_index t at) q))

-- a text that was written is a front of itself
pub front-whole : (a b : Option (List ℕ)) (t : List ℕ) → Appends a b t → AppendsFront a b t
front-whole a b t p =
    (length t, omega arith, subst (Appends a b) (sym (take_all (length t) t (omega arith))) p)

-- the front of a text is a front of what begins with it
pub front-first : (a b : Option (List ℕ)) (t rest : List ℕ) → AppendsFront a b t → AppendsFront a b (t ++ rest)
front-first a b t rest (n, low, q) =
    (n, omega (arith, low, length-append t rest), subst (Appends a b) (sym (take-append-le n t rest low)) q)

-- a text, and then a front of another
pub front-behind : (a b c : Option (List ℕ)) (s t : List ℕ) → Appends a b s → AppendsFront b c t
    → AppendsFront a c (s ++ t)
front-behind a b c s t p (n, low, q) = (
  length s + n,
  omega (arith, low, length-append s t),
  subst (Appends a c) (sym (take-append-add s t n)) (Appends-trans a b c s (take n t) p q),
)

-- a text, and then a front of what comes next
pub front-then : (a b c : Option (List ℕ)) (s t rest : List ℕ) → Appends a b s → AppendsFront b c t
    → AppendsFront a c (s ++ (t ++ rest))
front-then a b c s t rest p h = front-behind a b c s (t ++ rest) p (front-first b c t rest h)

-- a text that was written is a front of what begins with it
pub front-sent : (a b : Option (List ℕ)) (s rest : List ℕ) → Appends a b s → AppendsFront a b (s ++ rest)
front-sent a b s rest p = front-first a b s rest (front-whole a b s p)

pub nothing-sent : (a : Option (List ℕ)) (t : List ℕ) → AppendsFront a a t
nothing-sent a t = (0, omega arith, Appends-nil a)
