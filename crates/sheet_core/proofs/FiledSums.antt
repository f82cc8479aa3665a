-- Sums over the rows that are filed under a key: how many there are, and that they are those of the table that add to
-- it.
use Rattle.std.proofs.Common.{◌≡◌, ℕ, ◌+◌, ◌^◌, ◌<◌, ◌≤◌, Bool, true, false, cond}
use Rattle.std.proofs.Common.{List, [], ◌∷◌, length, Some, refl, sym, ap, ◌∙◌, arith}
use Rattle.std.specs.Prelude.{◌==◌, ◌&&◌, filter, nat_lt, sum_by}
use Rattle.std.specs.FinMap as table
use Rattle.std.specs.List.{AllByRecursion, list_any}
use Rattle.std.specs.List.Sorted.{IsStrictlySortedBy}
use Rattle.std.specs.Ordering.{nat_cmp, is_lt}
use Rattle.std.specs.declared.cmp.Ordering.TheVariants.{Less}
use Rattle.std.proofs.lemmas.Bool.{ltb-false, ltb-true}
use Rattle.std.proofs.lemmas.Bool.Decides.{nat_tests}
use Rattle.std.proofs.lemmas.List.Sums.{sum_by-cons}
use Rattle.sheet_core.specs.declared.index.Filing.{Filing}
use Rattle.sheet_core.specs.Index.{Rise, filed_under, numbers_of, rows_at}
use Rattle.sheet_core.specs.Sheet.{Table}
use Rattle.sheet_core.proofs.Conditions.{and_parts}
use Rattle.sheet_core.proofs.FiledRows.{selected-filed}
use Rattle.sheet_core.proofs.Keys.{key_eq}
use Rattle.sheet_core.proofs.Scans.{of_rows}

-- ---- how many there are

is_less : (a b : ℕ) → is_lt (nat_cmp a b) ≡ nat_lt a b
is_less a b = grind (arith, nat_tests)

from_next : (n : ℕ) (ns : List ℕ) → AllByRecursion (λ m. nat_cmp n m ≡ Less) ns → AllByRecursion (λ m. n + 1 ≤ m) ns
from_next n [] up = tt
from_next n (m ∷ ms) up =
    let less : n < m = ltb-true n m (sym (is_less n m) ∙ ap is_lt up.0) in
    let first : n + 1 ≤ m = omega (arith, less) in
    (first, from_next n ms up.1)

-- numbers that rise from one on and stay below another
few-between : (low high : ℕ) (ns : List ℕ) → low ≤ high → AllByRecursion (λ n. low ≤ n) ns
    → AllByRecursion (λ n. n < high) ns → Rise ns → length ns + low ≤ high
unfolding IsStrictlySortedBy
few-between low high [] le from below up = omega arith
few-between low high (n ∷ ns) le from below up =
    let first : n < high = below.0 in
    let start : low ≤ n = from.0 in
    let rest = few-between (n + 1) high ns (omega (arith, first)) (from_next n ns up.0) below.1 up.1 in
    omega (arith, rest, start)

below-under : (key : ℕ) (fs : List Filing) → AllByRecursion (λ n. n < 2 ^ 64) (numbers_of (filed_under key fs))
below-under key [] = tt
below-under key (f ∷ fs) =
    elim ((f.key == key) && nat_lt f.number (2 ^ 64)) as (λ b. ((f.key == key) && nat_lt f.number (2 ^ 64)) ≡ b
    → AllByRecursion (λ n. n < 2 ^ 64) (numbers_of (cond b (f ∷ filed_under key fs) (filed_under key fs)))) [
      | true ↦ λ is. (ltb-true f.number (2 ^ 64) (and_parts (f.key == key) _ is).1, below-under key fs)
      | false ↦ λ is. below-under key fs
    ] refl

from_none : (ns : List ℕ) → AllByRecursion (λ n. 0 ≤ n) ns
from_none [] = tt
from_none (n ∷ ns) = ((let h : 0 ≤ n = omega arith in h), from_none ns)

pub few-under : (key : ℕ) (fs : List Filing) → Rise (numbers_of (filed_under key fs))
    → length (numbers_of (filed_under key fs)) ≤ 2 ^ 64
few-under key fs up =
    let ns : List ℕ = numbers_of (filed_under key fs) in
    let h = few-between 0 (2 ^ 64) ns (omega arith) (from_none ns) (below-under key fs) up in
    omega (arith, h)

-- ---- what they add up to

module _ {X : Type 0} (f : X → ℕ) where
  abbrev pub adds : X → Bool
  adds x = nat_lt 0 (f x)

  -- what adds nothing may be left out
  sum-adding : (xs : List X) → sum_by f xs ≡ sum_by f (filter adds xs)
  sum-adding [] = refl
  sum-adding (x ∷ xs) = sum_by-cons f x xs ∙ by (nat_lt 0 (f x)) refl (sum-adding xs)
    where
      by : (b : Bool) → nat_lt 0 (f x) ≡ b → sum_by f xs ≡ sum_by f (filter adds xs)
          → f x + sum_by f xs ≡ sum_by f (cond b (x ∷ filter adds xs) (filter adds xs))
      by true y rest = omega (arith, rest, sum_by-cons f x (filter adds xs))
      by false y rest = omega (arith, rest, ltb-false 0 (f x) y)

  pub sum-filed : (t : Table X) (ns : List ℕ) → Rise ns
      → ((k : List ℕ) (x : X) → table.get t k ≡ Some x → adds x ≡ true → list_any (λ n. key_eq k (n ∷ [])) ns ≡ true)
      → sum_by f (of_rows (rows_at t ns)) ≡ sum_by f (table.values t)
  sum-filed t ns up covered =
      sum-adding (of_rows (rows_at t ns))
      ∙ ap (sum_by f) (selected-filed adds t ns up covered)
      ∙ sym (sum-adding (table.values t))
