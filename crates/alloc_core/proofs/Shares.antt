-- What each gives by the closed form is what counting down gives.
use Rattle.std.proofs.Common.{◌≡◌, ℕ, suc, zero, ◌+◌, ◌-◌, List, [], ◌∷◌}
use Rattle.std.proofs.Common.{get_or, length, map, min, take, refl, ap, ◌∙◌, arith}
use Rattle.std.specs.Prelude.{sum}
use Rattle.std.specs.List.{range_with_len}
use Rattle.std.proofs.lemmas.List.Sums.{sum_by-cons}
use Rattle.alloc_core.specs.Automatic.{counted_down, share, shares}

abbrev itself : ℕ → ℕ
itself n = n

map-alike : (f g : ℕ → ℕ) (ks : List ℕ) → ((k : ℕ) → f k ≡ g k) → map f ks ≡ map g ks
map-alike f g [] same = refl
map-alike f g (k ∷ ks) same = ap (λ x. x ∷ map f ks) (same k) ∙ ap (λ l. g k ∷ l) (map-alike f g ks same)

map-later : (f : ℕ → ℕ) (a n : ℕ) → map f (range_with_len (a + 1) n) ≡ map (λ k. f (k + 1)) (range_with_len a n)
map-later f a zero = refl
map-later f a (suc n) = ap (λ l. f (a + 1) ∷ l) (map-later f (a + 1) n)

sum-cons : (f : ℕ) (fs : List ℕ) → sum (f ∷ fs) ≡ f + sum fs
sum-cons f fs = sum_by-cons itself f fs

-- what the one at place k gives, where so much was given before
abbrev share_after : ℕ → ℕ → List ℕ → ℕ → ℕ
share_after missing before free k = min (get_or free k 0) (missing - (before + sum (take k free)))

share_later : (missing before f : ℕ) (fs : List ℕ) (k : ℕ)
    → share_after missing before (f ∷ fs) (k + 1) ≡ share_after missing (before + f) fs k
share_later missing before f fs k =
    let next : k + 1 ≡ suc k = omega arith in
    let total = sum-cons f (take k fs) in
    let left : missing - (before + sum (f ∷ take k fs)) ≡ missing - (before + f + sum (take k fs)) =
    omega (arith, total) in
    ap (λ j. share_after missing before (f ∷ fs) j) next ∙ ap (λ m. min (get_or fs k 0) m) left

left_over : (missing before f : ℕ) → missing - (before + f) ≡ missing - before - min f (missing - before)
left_over missing before f = omega arith

shares-after : (missing before : ℕ) (fs : List ℕ)
    → map (share_after missing before fs) (range_with_len 0 (length fs)) ≡ counted_down (missing - before) fs
shares-after missing before [] = refl
shares-after missing before (f ∷ fs) =
    let first : missing - (before + sum (take 0 (f ∷ fs))) ≡ missing - before = omega arith in
    ap (λ m. min f m ∷ map (share_after missing before (f ∷ fs)) (range_with_len 1 (length fs))) first
    ∙ ap (λ l. min f (missing - before) ∷ l)
    (map-later (share_after missing before (f ∷ fs)) 0 (length fs)
    ∙ map-alike _ (share_after missing (before + f) fs) (range_with_len 0 (length fs)) (share_later missing before f fs)
    ∙ shares-after missing (before + f) fs
    ∙ ap (λ m. counted_down m fs) (left_over missing before f))

pub shares-counted : (missing : ℕ) (free : List ℕ) → shares missing free ≡ counted_down missing free
shares-counted missing free =
    map-alike (share missing free) (share_after missing 0 free) (range_with_len 0 (length free))
    (λ k. ap (λ m. min (get_or free k 0) m)
    (let e : missing - sum (take k free) ≡ missing - (0 + sum (take k free)) = omega arith in e))
    ∙ shares-after missing 0 free ∙ ap (λ m. counted_down m free) (let e : missing - 0 ≡ missing = omega arith in e)
