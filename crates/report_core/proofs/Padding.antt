-- The spaces behind a field, and the columns that are left.
use Rattle.std.proofs.Common.{◌≡◌, ℕ, suc, zero, ◌<◌, ◌≤◌, ◌-◌, ◌+◌, List, [], ◌∷◌, ◌++◌, length, get_or, map, drop}
use Rattle.std.proofs.Common.{codes, refl, sym, ap, arith, append-nil, add-one, drop-cons}
use Rattle.std.proofs.lemmas.List.{drop_all}
use Rattle.std.specs.List.{repeat}
use Rattle.report_core.specs.Columns.{filled, in_columns}

-- a space more, and those that are left
pub one_space : (widest at : ℕ) → at < widest
    → codes " " ++ repeat (widest - (at + 1)) (codes " ") ≡ repeat (widest - at) (codes " ")
one_space widest at lt =
    let e : suc (widest - (at + 1)) ≡ widest - at = omega arith in ap (λ n. repeat n (codes " ")) e

-- the first of several fields in the columns from one on
first_filled : (i : ℕ) (ws f g : List ℕ) (fs : List (List ℕ))
    → in_columns (drop i ws) (f ∷ g ∷ fs) ≡ filled (get_or ws i 0) f ++ in_columns (drop (suc i) ws) (g ∷ fs)
first_filled zero [] f g fs = refl
first_filled zero (w ∷ ws) f g fs = refl
first_filled (suc i) [] f g fs = refl
first_filled (suc i) (w ∷ ws) f g fs = first_filled i ws f g fs

module _ {X : Type 0} (bytes : X → List ℕ) (ws : List ℕ) (xs : List X) (i : ℕ) (x : X) (here : x ≡ get_or xs i x) where
  pub next_filled : i + 1 < length xs
      → in_columns (drop i ws) (map bytes (drop i xs))
      ≡ filled (get_or ws i 0) (bytes x) ++ in_columns (drop (i + 1) ws) (map bytes (drop (i + 1) xs))
  next_filled lt =
      let now : i < length xs = omega arith in
      let later : suc i < length xs = omega arith in
      rw (add-one, drop-cons xs i x now, drop-cons xs (suc i) x later, ← here)
      (first_filled i ws (bytes x) (bytes (get_or xs (suc i) x)) (map bytes (drop (suc (suc i)) xs)))

  pub last_bare : i < length xs → length xs ≤ i + 1
      → in_columns (drop i ws) (map bytes (drop i xs))
      ≡ bytes x ++ in_columns (drop (i + 1) ws) (map bytes (drop (i + 1) xs))
  last_bare lt le =
      let end : length xs ≤ suc i = omega arith in
      let none : drop (suc i) xs ≡ [] = drop_all (suc i) xs end in
      rw (add-one, drop-cons xs i x lt, none, ← here) (sym (append-nil (bytes x)))
