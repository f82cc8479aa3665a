-- How a piece of the bytes goes onto a line.
use Rattle.std.proofs.Common.{◌≡◌, ◌+◌, ◌-◌, ◌≤◌, ◌<◌, ℕ, List, ◌++◌, take, drop, length}
use Rattle.std.proofs.Common.{arith, ap, sym, refl, ◌∙◌, length-append, subst, [], slice_range}
use Rattle.std.proofs.Common.{length-take, drop-drop, zero, suc, ◌∷◌, append-nil, append_assoc}
use Rattle.std.specs.Prelude.{Option, Some, None}
use Rattle.std.specs.Io.KnownBytes.{IsAtEnd, Keeps, prepend_known}
use Rattle.std.proofs.lemmas.List.{take_all, drop-take}
use Rattle.std.proofs.Math.Seq.{take-append-add, take-append_seam}
use Rattle.desk_app.specs.Cuts.{enough, held, ReadsFile}

pub all_taken : (most : ℕ) (l p : List ℕ) → length l + length p ≤ most → l ++ p ≡ take most (l ++ p)
all_taken most l p h = sym (take_all most (l ++ p) (omega (arith, length-append l p)))

pub front_taken : (most : ℕ) (l p : List ℕ) (room : ℕ) → length l + room ≡ most → l ++ take room p ≡ take most (l ++ p)
front_taken most l p room h = sym (subst (λ n. take n (l ++ p) ≡ l ++ take room p) h (take-append-add l p room))

-- what is left of a range behind its first n + 1
pub range_later : (t : List ℕ) (at filled n : ℕ) → n < length (slice_range t at filled)
    → slice_range t (at + (n + 1)) filled ≡ drop (n + 1) (slice_range t at filled)
range_later t at filled n h =
    sym (ap (λ m. drop (n + 1) (take m (drop at t))) split
    ∙ drop-take (n + 1) (filled - (at + (n + 1))) (drop at t)
    ∙ ap (take (filled - (at + (n + 1)))) (drop-drop (n + 1) at t))
  where
    split : filled - at ≡ (n + 1) + (filled - (at + (n + 1)))
    split = omega (arith, length-take (filled - at) (drop at t))

pub held_short : (l : List ℕ) → length l ≤ 65537 → held l ≡ l
unfolding held
held_short l h = take_all 65537 l h

pub length-held : (l : List ℕ) → length (held l) ≤ 65537
unfolding held
length-held l = omega (arith, length-take 65537 l)

pub take-held : (n : ℕ) (a b : List ℕ) → take n (take n a ++ b) ≡ take n (a ++ b)
take-held zero a b = refl
take-held (suc n) [] b = refl
take-held (suc n) (x ∷ a) b = ap (λ l. x ∷ l) (take-held n a b)

pub held-held : (a b : List ℕ) → held (held a ++ b) ≡ held (a ++ b)
unfolding held
held-held a b = take-held 65537 a b

-- ---- a file, of which as much is here as shows that it is too long

pub enough_short : (bs : List ℕ) → length bs ≤ 16777217 → enough bs ≡ bs
unfolding enough
enough_short bs h = take_all 16777217 bs h

pub length-enough : (bs : List ℕ) → length (enough bs) ≤ 16777217
unfolding enough
length-enough bs = omega (arith, length-take 16777217 bs)

enough-enough : (a b : List ℕ) → enough (enough a ++ b) ≡ enough (a ++ b)
unfolding enough
enough-enough a b = take-held 16777217 a b

enough_full : (bs rest : List ℕ) → length bs ≡ 16777217 → enough (bs ++ rest) ≡ bs
unfolding enough
enough_full bs rest h = subst (λ n. take n (bs ++ rest) ≡ bs) h (take-append_seam bs rest)

-- what was read, and what is left, are the file, as far as that tells
abbrev pub Gathers : Option (List ℕ) → List ℕ → Option (List ℕ) → Type 0
Gathers None bytes left = Unit {0}
Gathers (Some file) bytes None = ⊥
Gathers (Some file) bytes (Some rest) = enough (bytes ++ rest) ≡ enough file

pub gathers_more : (o k k' : Option (List ℕ)) (bytes bytes' u u' : List ℕ) → Gathers o bytes k
    → Keeps k (prepend_known u k') → bytes' ≡ enough (bytes ++ u) → u' ≡ []
    → Gathers o bytes' (prepend_known u' k')
gathers_more None k k' bytes bytes' u u' g h is none = tt
gathers_more (Some file) None k' bytes bytes' u u' g h is none = absurd g
gathers_more (Some file) (Some ks) None bytes bytes' u u' g h is none = absurd h
gathers_more (Some file) (Some ks) (Some rest) bytes bytes' u u' g h is none =
    ap (λ v. enough (v ++ (u' ++ rest))) is
    ∙ ap (λ v. enough (enough (bytes ++ u) ++ (v ++ rest))) none
    ∙ enough-enough (bytes ++ u) rest
    ∙ ap enough (append_assoc bytes u rest) ∙ ap (λ v. enough (bytes ++ v)) h ∙ g

pub gathers_full : (o k : Option (List ℕ)) (bytes : List ℕ) → Gathers o bytes k → length bytes ≡ 16777217
    → ReadsFile o bytes
gathers_full None k bytes g h = tt
gathers_full (Some file) None bytes g h = absurd g
gathers_full (Some file) (Some rest) bytes g h = sym (enough_full bytes rest h) ∙ g

pub gathers_end : (o k k' : Option (List ℕ)) (bytes : List ℕ) → Gathers o bytes k → Keeps k k' → IsAtEnd k'
    → length bytes ≤ 16777217 → ReadsFile o bytes
gathers_end None k k' bytes g h e few = tt
gathers_end (Some file) None k' bytes g h e few = absurd g
gathers_end (Some file) (Some ks) None bytes g h e few = absurd h
gathers_end (Some file) (Some ks) (Some rest) bytes g h e few =
    sym (enough_short bytes few) ∙ ap enough (sym (append-nil bytes)) ∙ ap (λ v. enough (bytes ++ v)) (sym e ∙ h) ∙ g
