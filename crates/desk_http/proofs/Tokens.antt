-- The first line of a file.
use Rattle.std.proofs.Common.{◌≡◌, ◌<◌, ◌≤◌, ℕ, Bool, true, false, List, take, length, get_or, ap, sym}
use Rattle.std.specs.List.{before_first}
use Rattle.std.proofs.lemmas.List.Sums.{position_or_len_is}

-- what stands before the first byte that passes
pub line_before : (p : ℕ → Bool) (xs : List ℕ) (i : ℕ) → i ≤ length xs
    → ((k : ℕ) → k < i → p (get_or xs k 0) ≡ false) → (i < length xs → p (get_or xs i 0) ≡ true)
    → take i xs ≡ before_first p xs
line_before p xs i h before here = ap (λ n. take n xs) (sym (position_or_len_is p xs i 0 h before here))
