-- What the router finds, over the rows of routes alone.
use Rattle.std.proofs.Common.{◌≡◌, ◌≢◌, ℕ, zero, suc, ◌+◌, ◌-◌, ◌<◌, List, [], ◌∷◌, ◌++◌}
use Rattle.std.proofs.Common.{length, drop, Option, Some, None, Bool, true, false, cond, refl}
use Rattle.std.proofs.Common.{sym, ap, ◌∙◌, arith, nat_eq, ◌==◌, append-nil, add-one, ltb}
use Rattle.std.specs.Prelude.{option_map, ◌&&◌}
use Rattle.std.specs.Cmp.Lexicographic.{pointwise}
use Rattle.std.proofs.lemmas.Bool.Decides.{nat_tests}
use Rattle.matchit.specs.Rows.{Rows, prepend, param_token, catch_all_token}
use Rattle.matchit.specs.Seek.{step, or_else, seek, first, param_step, has_slash}
use Rattle.matchit.specs.Seek.{segment, cuts, longest_suffix, with_suffix}
use Rattle.matchit.specs.Level.{IsText}
use Rattle.matchit.proofs.SeekLemmas.{own-append, step-append, step-miss, or_else-none}
use Rattle.matchit.proofs.SeekLemmas.{param_step-empty, seek-empty, seek-drop, first-prefix}
use Rattle.matchit.proofs.ParamLemmas.{seek-after, drop-length, one_less}
use Rattle.desk_http.specs.Targets.{place_in}

-- rows that all begin with a byte go on with the path's byte
pub lit : (r : Rows) (y : ℕ) (p : List ℕ) → step param_token r ≡ [] → step catch_all_token r ≡ []
    → seek 0 r (y ∷ p) ≡ seek 0 (step y r) p
unfolding seek
lit r y p e f =
    simp (e, f, param_step-empty (y ∷ p), seek-empty ((param_step {K = ℕ} [] (y ∷ p)).0 - 1) p, or_else-none)

no_step : (t x y : ℕ) (w v : List ℕ) (a b : Rows) → x ≢ t → y ≢ t → step t (prepend (x ∷ w) a ++ prepend (y ∷ v) b) ≡ []
no_step t x y w v a b n m =
    step-append t (prepend (x ∷ w) a) (prepend (y ∷ v) b) ∙ rw (step-miss t x w a n, step-miss t y v b m) refl

-- rows that part at their first byte are found apart
pub parted : (x : ℕ) (w : List ℕ) (a : Rows) (y : ℕ) (v : List ℕ) (b : Rows) (path : List ℕ) → x < 256 → y < 256 → x ≢ y
    → first (prepend (x ∷ w) a ++ prepend (y ∷ v) b) path
    ≡ or_else (first (prepend (x ∷ w) a) path) (first (prepend (y ∷ v) b) path)
unfolding seek
parted x w a y v b [] h k n = own-append (prepend (x ∷ w) a) (prepend (y ∷ v) b)
parted x w a y v b (z ∷ p) h k n =
    let x6 : x ≢ param_token = λ e. omega arith in
    let x7 : x ≢ catch_all_token = λ e. omega arith in
    let y6 : y ≢ param_token = λ e. omega arith in
    let y7 : y ≢ catch_all_token = λ e. omega arith in
    lit (prepend (x ∷ w) a ++ prepend (y ∷ v) b) z p (no_step param_token x y w v a b x6 y6)
    (no_step catch_all_token x y w v a b x7 y7)
    ∙ by (x == z) refl
    ∙ sym (ap (λ q. or_else q (first (prepend (y ∷ v) b) (z ∷ p)))
    (lit (prepend (x ∷ w) a) z p (step-miss param_token x w a x6) (step-miss catch_all_token x w a x7))
    ∙ ap (λ q. or_else (seek 0 (step z (prepend (x ∷ w) a)) p) q)
    (lit (prepend (y ∷ v) b) z p (step-miss param_token y v b y6) (step-miss catch_all_token y v b y7)))
  where
    by : (c : Bool) → (x == z) ≡ c → seek 0 (step z (prepend (x ∷ w) a ++ prepend (y ∷ v) b)) p
        ≡ or_else (seek 0 (step z (prepend (x ∷ w) a)) p) (seek 0 (step z (prepend (y ∷ v) b)) p)
    by true e =
        let same : x ≡ z = grind (arith, nat_tests) in
        let other : y ≢ z = λ q. n (same ∙ sym q) in
        rw (
          step-append z (prepend (x ∷ w) a) (prepend (y ∷ v) b),
          step-miss z y v b other,
          append-nil (step z (prepend (x ∷ w) a)),
          seek-empty 0 p,
        ) (sym (or_else-none _))
    by false e =
        let other : x ≢ z = λ q. grind (arith, nat_tests) in
        rw (step-append z (prepend (x ∷ w) a) (prepend (y ∷ v) b), step-miss z x w a other, seek-empty 0 p) refl

-- and behind bytes that they share
pub joined : (w : List ℕ) (a b : Rows) (path : List ℕ) → IsText w
    → ((p : List ℕ) → first (a ++ b) p ≡ or_else (first a p) (first b p))
    → first (prepend w (a ++ b)) path ≡ or_else (first (prepend w a) path) (first (prepend w b) path)
joined w a b path h k = rw (first-prefix w (a ++ b) path h, first-prefix w a path h, first-prefix w b path h) (by _)
  where
    by : (c : Bool) → cond c (first (a ++ b) (drop (length w) path)) None
        ≡ or_else (cond c (first a (drop (length w) path)) None) (cond c (first b (drop (length w) path)) None)
    by true = k (drop (length w) path)
    by false = refl

-- ---- a parameter's segment

pub seg_at : (s : List ℕ) (i : ℕ) → place_in 47 s ≡ Some i → (length (segment s) ≡ i + 1) × (drop i (segment s) ≡ 47 ∷ [])
    × (drop i s ≡ 47 ∷ drop (i + 1) s) × (has_slash s ≡ true)
unfolding place_in
seg_at [] i e = absurd (cc)
seg_at (b ∷ bs) i e = by (b == 47) refl (place_in 47 bs) refl e (seg_at bs)
  where
    by : (c : Bool) → (b == 47) ≡ c → (o : Option ℕ) → place_in 47 bs ≡ o
        → cond c (Some 0) (option_map (λ n. n + 1) o) ≡ Some i
        → ((j : ℕ) → place_in 47 bs ≡ Some j → (length (segment bs) ≡ j + 1) × (drop j (segment bs) ≡ 47 ∷ [])
        × (drop j bs ≡ 47 ∷ drop (j + 1) bs) × (has_slash bs ≡ true))
        → (length (segment (b ∷ bs)) ≡ i + 1) × (drop i (segment (b ∷ bs)) ≡ 47 ∷ [])
        × (drop i (b ∷ bs) ≡ 47 ∷ drop (i + 1) (b ∷ bs)) × (has_slash (b ∷ bs) ≡ true)
    by true q o r e' ih =
        let is : b ≡ 47 = grind (arith, nat_tests) in
        let at : 0 ≡ i = cc in
        rw (← at, q, is) (refl, refl, refl, refl)
    by false q None r e' ih = absurd (cc)
    by false q (Some j) r e' ih =
        let at : suc j ≡ i = sym (add-one j) ∙ cc in
        let h = ih j r in
        let l : suc (j + 1) ≡ suc j + 1 = omega arith in
        rw (← at, q) (ap suc h.0 ∙ l, h.1, h.2 ∙ ap (λ k. 47 ∷ drop k (b ∷ bs)) l, h.3)

pub seg_none : (s : List ℕ) → place_in 47 s ≡ None → (segment s ≡ s) × (has_slash s ≡ false)
unfolding place_in
seg_none [] e = (refl, refl)
seg_none (b ∷ bs) e = by (b == 47) refl (place_in 47 bs) refl e (seg_none bs)
  where
    by : (c : Bool) → (b == 47) ≡ c → (o : Option ℕ) → place_in 47 bs ≡ o
        → cond c (Some 0) (option_map (λ n. n + 1) o) ≡ None
        → (place_in 47 bs ≡ None → (segment bs ≡ bs) × (has_slash bs ≡ false))
        → (segment (b ∷ bs) ≡ b ∷ bs) × (has_slash (b ∷ bs) ≡ false)
    by true q o r e' ih = absurd (cc)
    by false q (Some j) r e' ih = absurd (cc)
    by false q None r e' ih = let h = ih r in rw q (ap (λ z. b ∷ z) h.0, h.1)

last_slash : (n : ℕ) (s : List ℕ) → has_slash s ≡ false → pointwise nat_eq (47 ∷ []) (drop n s) ≡ false
last_slash zero [] e = refl
last_slash (suc n) [] e = refl
last_slash zero (x ∷ xs) e = by (x == 47) refl e
  where
    by : (c : Bool) → (x == 47) ≡ c → cond c true (has_slash xs) ≡ false → pointwise nat_eq (47 ∷ []) (x ∷ xs) ≡ false
    by true q e' = absurd (cc)
    by false q e' = let r : nat_eq 47 x ≡ false = grind (arith, nat_tests) in rw r refl
last_slash (suc n) (x ∷ xs) e = by (x == 47) e (last_slash n xs)
  where
    by : (c : Bool) → cond c true (has_slash xs) ≡ false
        → (has_slash xs ≡ false → pointwise nat_eq (47 ∷ []) (drop n xs) ≡ false)
        → pointwise nat_eq (47 ∷ []) (drop n xs) ≡ false
    by true e' ih = absurd (cc)
    by false e' ih = ih e'

-- no token of a path is a parameter's
abbrev pub Bytes : List ℕ → Type 0
Bytes [] = Unit {0}
Bytes (b ∷ bs) = (b < 256) × Bytes bs

-- what a route of one parameter and a slash leaves of a path
abbrev pub rest_of : Rows → List ℕ → Option ℕ → Option ℕ
rest_of r path None = None
rest_of r path (Some zero) = None
rest_of r path (Some (suc i)) = first r (drop (suc i + 1) path)

param_head : (k b : ℕ) (t p : List ℕ) → b < 256
    → first ((param_token ∷ t, k) ∷ []) (b ∷ p)
    ≡ seek ((param_step ((t, k) ∷ []) (b ∷ p)).0 - 1) (param_step ((t, k) ∷ []) (b ∷ p)).1 p
unfolding seek
param_head k b t p h =
    let off : (param_token == b) ≡ false = grind (arith, nat_tests) in
    rw off (rw (seek-empty 0 p) (or_else-none _))

stepped : (r : Rows) (path l : List ℕ) (c : Bool) → longest_suffix (segment path) r ≡ l → has_slash path ≡ c
    → param_step r path
    ≡ cond (ltb 0 (length l)) (length (segment path) - length l, with_suffix l r) (cond c (0, []) (length path, r))
unfolding param_step
stepped r path l c e f = rw (e, f) refl

-- the slash behind a parameter is the suffix, where the segment has it behind another byte
suffix_is : (seg t : List ℕ) (k : ℕ) (c : Bool) → cuts seg (47 ∷ []) ≡ c
    → longest_suffix seg ((47 ∷ t, k) ∷ []) ≡ cond c (47 ∷ []) []
suffix_is seg t k c e = ap (λ d. cond (ltb 0 1 && d) (47 ∷ []) []) e

uncut : (seg : List ℕ) → has_slash seg ≡ false → cuts seg (47 ∷ []) ≡ false
uncut seg e = ap (λ d. ltb 1 (length seg) && d) (last_slash (length seg - 1) seg e) ∙ by (ltb 1 (length seg))
  where
    by : (c : Bool) → c && false ≡ false
    by true = refl
    by false = refl

cut_one : (seg : List ℕ) → length seg ≡ 1 → cuts seg (47 ∷ []) ≡ false
cut_one seg e = ap (λ n. ltb 1 n && pointwise nat_eq (47 ∷ []) (drop (n - 1) seg)) e

cut_more : (seg : List ℕ) (i : ℕ) → length seg ≡ suc i + 1 → drop (suc i) seg ≡ 47 ∷ [] → cuts seg (47 ∷ []) ≡ true
cut_more seg i e d =
    let long : ltb 1 (suc i + 1) ≡ true = grind (arith, nat_tests) in
    let less : suc i + 1 - 1 ≡ suc i = omega arith in
    ap (λ n. ltb 1 n && pointwise nat_eq (47 ∷ []) (drop (n - 1) seg)) e
    ∙ ap (λ c. c && pointwise nat_eq (47 ∷ []) (drop (suc i + 1 - 1) seg)) long
    ∙ ap (λ n. pointwise nat_eq (47 ∷ []) (drop n seg)) less ∙ ap (pointwise nat_eq (47 ∷ [])) d

pub param_mid : (t : List ℕ) (k : ℕ) (path : List ℕ) → Bytes path
    → first ((param_token ∷ 47 ∷ t, k) ∷ []) path ≡ rest_of ((t, k) ∷ []) path (place_in 47 path)
unfolding seek place_in
param_mid t k [] h = refl
param_mid t k (b ∷ p) h = param_head k b (47 ∷ t) p h.0 ∙ by (place_in 47 (b ∷ p)) refl
  where
    rows : Rows
    rows = (47 ∷ t, k) ∷ []

    goes : ℕ × Rows → Option ℕ
    goes q = seek (q.0 - 1) q.1 p

    by : (o : Option ℕ) → place_in 47 (b ∷ p) ≡ o → goes (param_step rows (b ∷ p)) ≡ rest_of ((t, k) ∷ []) (b ∷ p) o
    by None e =
        let s = seg_none (b ∷ p) e in
        let none : has_slash (segment (b ∷ p)) ≡ false = ap has_slash s.0 ∙ s.1 in
        ap goes
        (stepped rows (b ∷ p) [] false (suffix_is (segment (b ∷ p)) t k false (uncut (segment (b ∷ p)) none)) s.1)
        ∙ ap (λ n. seek n rows p) (one_less (length p)) ∙ seek-drop (length p) rows p ∙ ap (first rows) (drop-length p)
    by (Some zero) e =
        let s = seg_at (b ∷ p) 0 e in
        ap goes
        (stepped rows (b ∷ p) [] true (suffix_is (segment (b ∷ p)) t k false (cut_one (segment (b ∷ p)) s.0)) s.3)
        ∙ seek-empty _ p
    by (Some (suc i)) e =
        let s = seg_at (b ∷ p) (suc i) e in
        let less : length (segment (b ∷ p)) - 1 ≡ suc i = omega (arith, s.0) in
        let some : 0 < suc i = omega arith in
        ap goes (stepped rows (b ∷ p) (47 ∷ []) true
        (suffix_is (segment (b ∷ p)) t k true (cut_more (segment (b ∷ p)) i s.0 s.1)) s.3)
        ∙ ap (λ n. seek (n - 1) rows p) less ∙ seek-after (suc i) rows b p some ∙ ap (first rows) s.2
        ∙ first-prefix (47 ∷ []) ((t, k) ∷ []) (47 ∷ drop (suc i + 1) (b ∷ p)) ((omega arith), tt)

abbrev pub last_of : ℕ → List ℕ → Option ℕ → Option ℕ
last_of k [] o = None
last_of k (b ∷ p) None = Some k
last_of k (b ∷ p) (Some i) = None

pub param_end : (k : ℕ) (path : List ℕ) → Bytes path
    → first ((param_token ∷ [], k) ∷ []) path ≡ last_of k path (place_in 47 path)
unfolding seek place_in
param_end k [] h = refl
param_end k (b ∷ p) h = param_head k b [] p h.0 ∙ by (place_in 47 (b ∷ p)) refl
  where
    rows : Rows
    rows = ([], k) ∷ []

    goes : ℕ × Rows → Option ℕ
    goes q = seek (q.0 - 1) q.1 p

    by : (o : Option ℕ) → place_in 47 (b ∷ p) ≡ o → goes (param_step rows (b ∷ p)) ≡ last_of k (b ∷ p) o
    by None e =
        let s = seg_none (b ∷ p) e in
        ap goes (stepped rows (b ∷ p) [] false refl s.1)
        ∙ ap (λ n. seek n rows p) (one_less (length p)) ∙ seek-drop (length p) rows p ∙ ap (first rows) (drop-length p)
    by (Some i) e =
        let s = seg_at (b ∷ p) i e in
        ap goes (stepped rows (b ∷ p) [] true refl s.3) ∙ seek-empty _ p
