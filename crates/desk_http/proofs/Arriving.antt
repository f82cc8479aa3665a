-- What has come, and what is still to come.
use Rattle.std.proofs.Common.{◌≡◌, ◌+◌, ◌-◌, ◌≤◌, ◌<◌, ℕ, Bool, true, false, cond, List, [], ◌∷◌, ◌++◌}
use Rattle.std.proofs.Common.{take, length, arith, ap, sym, refl, ◌∙◌, append-nil, length-append, zero}
use Rattle.std.proofs.Common.{suc, subst, nat_eq, ◌==◌, get_or, drop, drop-cons, add-one}
use Rattle.std.specs.Prelude.{Option, Some, None, option_map, nat_lt, IfSome, ◌||◌, ◌&&◌}
use Rattle.std.specs.List.{starts_with}
use Rattle.std.specs.Io.{StartsWith}
use Rattle.std.specs.Io.KnownBytes.{IsAtEnd}
use Rattle.std.proofs.lemmas.List.{take_all}
use Rattle.std.proofs.lemmas.Bool.{le-ltb, lt-ltb}
use Rattle.desk_http.specs.declared.receive.HeadArrival.TheVariants.{Head, TooLong, Incomplete}
use Rattle.desk_http.specs.HeadEnds.{empty_line_end, head_end, front, arrival, arrival_at, all_of, EndsWithHead}

pub all_short : (n : ℕ) (bs : List ℕ) → length bs < n → bs ≡ take n bs
all_short n bs h = sym (take_all n bs (omega arith))

-- ---- where a head ends, byte by byte

further : (i : ℕ) (o : Option ℕ) → option_map (λ n. n + i) (option_map (λ n. n + 1) o) ≡ option_map (λ n. n + (i + 1)) o
further i None = refl
further i (Some n) = ap Some (omega arith)

unless_there : (b : ℕ) (bs : List ℕ) → starts_with nat_eq (b ∷ bs) (10 ∷ 10 ∷ []) ≡ false
    → starts_with nat_eq (b ∷ bs) (10 ∷ 13 ∷ 10 ∷ []) ≡ false
    → empty_line_end (b ∷ bs) ≡ option_map (λ n. n + 1) (empty_line_end bs)
unfolding empty_line_end
unless_there b bs e f =
    ap (λ t. cond t (Some 2)
    (cond (starts_with nat_eq (b ∷ bs) (10 ∷ 13 ∷ 10 ∷ [])) (Some 3) (option_map (λ n. n + 1) (empty_line_end bs))))
    e
    ∙ ap (λ t. cond t (Some 3) (option_map (λ n. n + 1) (empty_line_end bs))) f

-- no empty line stands at this place
pub no_empty_line : (bs rest : List ℕ) (i : ℕ) → i < length bs → rest ≡ drop i bs
    → starts_with nat_eq rest (10 ∷ 10 ∷ []) ≡ false → starts_with nat_eq rest (10 ∷ 13 ∷ 10 ∷ []) ≡ false
    → option_map (λ n. n + i) (empty_line_end (drop i bs))
    ≡ option_map (λ n. n + (i + 1)) (empty_line_end (drop (i + 1) bs))
no_empty_line bs rest i l r e f =
    let cut : drop i bs ≡ get_or bs i 0 ∷ drop (i + 1) bs =
    drop-cons bs i 0 l ∙ ap (λ k. get_or bs i 0 ∷ drop k bs) (sym (add-one i)) in
    let same = r ∙ cut in
    ap (λ v. option_map (λ n. n + i) (empty_line_end v)) cut
    ∙ ap (option_map (λ n. n + i)) (unless_there (get_or bs i 0) (drop (i + 1) bs) (rw same at e) (rw same at f))
    ∙ further i (empty_line_end (drop (i + 1) bs))

-- ---- an end that has come stays

one_byte : (b n : ℕ) → empty_line_end (b ∷ []) ≡ Some n → ⊥
unfolding empty_line_end
one_byte b n h = by (nat_eq 10 b) h
  where
    by : (t : Bool) → cond (t && false) (Some 2) (cond (t && false) (Some 3) None) ≡ Some n → ⊥
    by true e = absurd (cc)
    by false e = absurd (cc)

two_bytes : (c n : ℕ) (s u : Bool) (o : Option ℕ) → empty_line_end (c ∷ []) ≡ o
    → cond (s && (u && false)) (Some 3) (option_map (λ k. k + 1) o) ≡ Some n → ⊥
two_bytes c n true true (Some m) q e = one_byte c m q
two_bytes c n true false (Some m) q e = one_byte c m q
two_bytes c n false u (Some m) q e = one_byte c m q
two_bytes c n true true None q e = absurd (cc)
two_bytes c n true false None q e = absurd (cc)
two_bytes c n false u None q e = absurd (cc)

later : (d : Bool) (x y : Option ℕ) (n : ℕ) → ((m : ℕ) → x ≡ Some m → y ≡ Some m)
    → cond d (Some 3) (option_map (λ k. k + 1) x) ≡ Some n → cond d (Some 3) (option_map (λ k. k + 1) y) ≡ Some n
later true x y n k e = e
later false None y n k e = absurd (cc)
later false (Some m) y n k e = ap (option_map (λ i. i + 1)) (k m refl) ∙ e

empty_line_stays : (bs more : List ℕ) (n : ℕ) → empty_line_end bs ≡ Some n → empty_line_end (bs ++ more) ≡ Some n
unfolding empty_line_end
empty_line_stays [] more n h = absurd (cc)
empty_line_stays (b ∷ []) more n h = absurd (one_byte b n h)
empty_line_stays (b ∷ c ∷ []) more n h = by (nat_eq 10 b && (nat_eq 10 c && true)) h
  where
    by : (t : Bool) → cond t (Some 2)
        (cond (nat_eq 10 b && (nat_eq 13 c && false)) (Some 3) (option_map (λ k. k + 1) (empty_line_end (c ∷ []))))
        ≡ Some n
        → cond t (Some 2)
        (cond (starts_with nat_eq (b ∷ c ∷ more) (10 ∷ 13 ∷ 10 ∷ [])) (Some 3)
        (option_map (λ k. k + 1) (empty_line_end (c ∷ more))))
        ≡ Some n
    by true e = e
    by false e = absurd (two_bytes c n (nat_eq 10 b) (nat_eq 13 c) (empty_line_end (c ∷ [])) refl e)
empty_line_stays (b ∷ c ∷ d ∷ ds) more n h =
    by (starts_with nat_eq (b ∷ c ∷ d ∷ ds) (10 ∷ 10 ∷ [])) h (empty_line_stays (c ∷ d ∷ ds) more)
  where
    by : (t : Bool) → cond t (Some 2)
        (cond (starts_with nat_eq (b ∷ c ∷ d ∷ ds) (10 ∷ 13 ∷ 10 ∷ [])) (Some 3)
        (option_map (λ k. k + 1) (empty_line_end (c ∷ d ∷ ds))))
        ≡ Some n
        → ((m : ℕ) → empty_line_end (c ∷ d ∷ ds) ≡ Some m → empty_line_end (c ∷ d ∷ ds ++ more) ≡ Some m)
        → cond t (Some 2)
        (cond (starts_with nat_eq (b ∷ c ∷ d ∷ ds) (10 ∷ 13 ∷ 10 ∷ [])) (Some 3)
        (option_map (λ k. k + 1) (empty_line_end (c ∷ d ∷ ds ++ more))))
        ≡ Some n
    by true e ih = e
    by false e ih =
        later (starts_with nat_eq (b ∷ c ∷ d ∷ ds) (10 ∷ 13 ∷ 10 ∷ [])) (empty_line_end (c ∷ d ∷ ds))
        (empty_line_end (c ∷ d ∷ ds ++ more)) n ih e

end_stays : (bs more : List ℕ) (n : ℕ) → head_end bs ≡ Some n → head_end (bs ++ more) ≡ Some n
unfolding head_end
end_stays [] more n h = absurd (cc)
end_stays (b ∷ bs) more n h = by (b == 13 || b == 10) (head_end bs) (end_stays bs more) h
  where
    by : (t : Bool) (o : Option ℕ) → ((m : ℕ) → o ≡ Some m → head_end (bs ++ more) ≡ Some m)
        → cond t (option_map (λ k. k + 1) o) (empty_line_end (b ∷ bs)) ≡ Some n
        → cond t (option_map (λ k. k + 1) (head_end (bs ++ more))) (empty_line_end (b ∷ bs ++ more)) ≡ Some n
    by true None ih e = absurd (cc)
    by true (Some m) ih e = ap (option_map (λ i. i + 1)) (ih m refl) ∙ e
    by false o ih e = empty_line_stays (b ∷ bs) more n e

front_more : (n : ℕ) (bs ys : List ℕ) → take n (bs ++ ys) ≡ take n bs ++ take (n - length bs) ys
front_more zero bs ys = let e : 0 ≡ 0 - length bs = omega arith in ap (λ k. take k ys) e
front_more (suc n) [] ys = let e : suc n ≡ suc n - 0 = omega arith in ap (λ k. take k ys) e
front_more (suc n) (b ∷ bs) ys =
    let e : n - length bs ≡ suc n - length (b ∷ bs) = omega arith in
    ap (λ l. b ∷ l) (front_more n bs ys) ∙ ap (λ k. b ∷ take n bs ++ take k ys) e

found_early : (bs ys : List ℕ) (n : ℕ) → head_end (front bs) ≡ Some n → head_end (front (bs ++ ys)) ≡ Some n
unfolding front
found_early bs ys n h = ap head_end (front_more 8192 bs ys) ∙ end_stays (take 8192 bs) (take (8192 - length bs) ys) n h

-- ---- what has come of a head is what the bytes begin with that were read

unless_short : (x : ℕ) → 8192 ≤ x → cond (nat_lt x 8192) Incomplete TooLong ≡ TooLong
unless_short x h = ap (λ b. cond b Incomplete TooLong) (le-ltb x 8192 h)

if_short : (x : ℕ) → x < 8192 → cond (nat_lt x 8192) Incomplete TooLong ≡ Incomplete
if_short x h = ap (λ b. cond b Incomplete TooLong) (lt-ltb x 8192 h)

pub found_here : (bs : List ℕ) (n : ℕ) → head_end (front bs) ≡ Some n → Head n ≡ arrival bs
found_here bs n h = sym (ap (arrival_at bs) h)

pub too_long_here : (bs : List ℕ) → head_end (front bs) ≡ None → 8192 ≤ length bs → TooLong ≡ arrival bs
too_long_here bs h l = sym (ap (arrival_at bs) h ∙ unless_short (length bs) l)

pub incomplete_here : (bs : List ℕ) → head_end (front bs) ≡ None → length bs < 8192 → Incomplete ≡ arrival bs
incomplete_here bs h l = sym (ap (arrival_at bs) h ∙ if_short (length bs) l)

-- ---- a head that comes, comes with the last read

pub nothing_read : (bs : List ℕ) → bs ≡ [] → EndsWithHead bs
unfolding head_end front
nothing_read bs e =
    subst EndsWithHead (sym e) (record { before = 0; last_read = omega arith; not_yet = sym (incomplete_here [] refl (omega arith)) })

pub read_once_more : (bs bs' : List ℕ) → head_end (front bs) ≡ None → length bs < 8192 → StartsWith bs' bs
    → length bs' ≤ length bs + 4096 → EndsWithHead bs'
read_once_more bs bs' h l more most =
    record { before = length bs; last_read = most; not_yet = ap arrival more ∙ sym (incomplete_here bs h l) }

-- ---- what has come of a head is what the whole bytes begin with

pub found : (r : Option (List ℕ)) (bs : List ℕ) (n : ℕ) → head_end (front bs) ≡ Some n
    → IfSome (all_of r bs) (λ xs. Head n ≡ arrival xs)
found None bs n h = tt
found (Some ys) bs n h = sym (ap (arrival_at (bs ++ ys)) (found_early bs ys n h))

front_full : (bs ys : List ℕ) → 8192 ≤ length bs → front (bs ++ ys) ≡ front bs
unfolding front
front_full bs ys h =
    front_more 8192 bs ys
    ∙ (let e : 8192 - length bs ≡ 0 = omega arith in ap (λ k. take 8192 bs ++ take k ys) e)
    ∙ append-nil (take 8192 bs)

pub too_long : (r : Option (List ℕ)) (bs : List ℕ) → head_end (front bs) ≡ None → 8192 ≤ length bs
    → IfSome (all_of r bs) (λ xs. TooLong ≡ arrival xs)
too_long None bs h l = tt
too_long (Some ys) bs h l =
    sym (ap (arrival_at (bs ++ ys)) (ap head_end (front_full bs ys l) ∙ h)
    ∙ unless_short (length (bs ++ ys)) (omega (arith, length-append bs ys)))

pub incomplete : (r : Option (List ℕ)) (bs : List ℕ) → IsAtEnd r → head_end (front bs) ≡ None → length bs < 8192
    → IfSome (all_of r bs) (λ xs. Incomplete ≡ arrival xs)
incomplete None bs e h l = tt
incomplete (Some ys) bs e h l =
    let all : bs ++ ys ≡ bs = ap (λ v. bs ++ v) e ∙ append-nil bs in
    sym (ap arrival all ∙ ap (arrival_at bs) h ∙ if_short (length bs) l)

-- ---- a head that has come stays, whatever comes behind it

no_head : (x n : ℕ) → Head n ≡ cond (nat_lt x 8192) Incomplete TooLong → ⊥
no_head x n h = by (nat_lt x 8192) h
  where
    by : (t : Bool) → Head n ≡ cond t Incomplete TooLong → ⊥
    by true e = absurd (cc)
    by false e = absurd (cc)

ends_there : (bs : List ℕ) (n : ℕ) (end : Option ℕ) → Head n ≡ arrival_at bs end → end ≡ Some n
ends_there bs n None h = absurd (no_head (length bs) n h)
ends_there bs n (Some m) h = cc

pub head_stays : (bs more : List ℕ) (n : ℕ) → Head n ≡ arrival bs → Head n ≡ arrival (bs ++ more)
head_stays bs more n h =
    sym (ap (arrival_at (bs ++ more)) (found_early bs more n (ends_there bs n (head_end (front bs)) h)))
