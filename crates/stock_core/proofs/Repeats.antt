-- Keys that stand once, by index.
use Rattle.std.proofs.Common.{◌≡◌, ℕ, ◌+◌, ◌<◌, ◌≤◌, Bool, true, false, cond, List, [], ◌∷◌, length, get_or}
use Rattle.std.proofs.Common.{take, refl, ap, sym, ◌∙◌, arith, Option, Some, None, eqb-true, suc, zero, add-one}
use Rattle.std.specs.Prelude.{◌==◌, ◌&&◌, ◌||◌, nat_eq, not, if◌then◌else◌, nat_lt}
use Rattle.std.specs.List.{list_any}
use Rattle.std.specs.Str.{bytes_eq}
use Rattle.std.specs.Borrow.{Bor}
use Rattle.std.proofs.lemmas.Bool.{eq-eqb, ltb-true, ltb-false}
use Rattle.std.proofs.lemmas.Slice.Eq.{bytes_eq-Decides}
use mathlib.Core.Bool.{or-false}
use Rattle.part_core.specs.Catalogue.{Parts, family}
use Rattle.forest.specs.declared.item.Item.{Item}
use Rattle.forest.specs.Rows.{row_at}
use Rattle.yard_core.specs.Stock.{is_gone, has_serial, holds_serial}
use Rattle.yard_core.specs.Climbs.{IsByNumber}
use Rattle.stock_core.specs.Opening.{Key, seen_key, key_from, held_key, SerialsOnce}
use Rattle.yard_core.proofs.Below.{seen}
use Rattle.yard_core.proofs.Halving.{numbers_less, row_found}

-- whether two keys are the same
abbrev pub same_key : ℕ × Bor (List ℕ) → ℕ × Bor (List ℕ) → Bool
same_key x y = nat_eq x.0 y.0 && bytes_eq x.1.now y.1.now

pub not_true : (a b : Bool) → a ≡ not b → a ≡ true → b ≡ false
not_true a true e t = let no : false ≡ true = sym e ∙ t in cc
not_true a false e t = refl

pub not_false : (a b : Bool) → a ≡ not b → a ≡ false → b ≡ true
not_false a true e t = refl
not_false a false e t = let no : true ≡ false = sym e ∙ t in cc

pub one_key : (k q : Key) → Some k ≡ Some q → k ≡ q
one_key k q e = cc

pub no_key : (b : Bool) (k : Key) → None ≡ Some k → b ≡ false
no_key b k e = cc

abbrev pub by_key : Option Key → ℕ → List ℕ → Bool
by_key None f s = false
by_key (Some k) f s = (k.0 == f) && bytes_eq k.1 s

and_swap : (a b : Bool) → (a && b) ≡ (b && a)
and_swap true true = refl
and_swap true false = refl
and_swap false true = refl
and_swap false false = refl

-- an item holds what its key is
pub holds-is : (parts : Parts) (x : Item) (f : ℕ) (s : List ℕ)
    → holds_serial s f parts x ≡ by_key (held_key parts x) f s
holds-is parts x f s = go (is_gone x.place) refl x.lot.serial refl
  where
    go : (g : Bool) → is_gone x.place ≡ g → (o : Option (List ℕ)) → x.lot.serial ≡ o
        → (not g && has_serial s x && (family x.part parts == f))
        ≡ by_key (if g then None else key_from (family x.part parts) o) f s
    go true e o t = refl
    go false e None t = rw t refl
    go false e (Some own) t = rw t (and_swap (bytes_eq own s) (family x.part parts == f))

any-more : (p : Item → Bool) (rows : List (Bor Item)) (i : ℕ) (x : Bor Item) → i < length rows → x ≡ get_or rows i x
    → list_any p (seen (take (suc i) rows)) ≡ (list_any p (seen (take i rows)) || p x.now)
any-more p [] i x lt e = absurd (omega (arith, lt))
any-more p (y ∷ ys) zero x lt e = or-false (p y.now) ∙ ap (λ (z : Bor Item). p z.now) (sym e)
any-more p (y ∷ ys) (suc i) x lt e = go (p y.now) (any-more p ys i x (omega (arith, lt)) e)
  where
    go : (b : Bool) → list_any p (seen (take (suc i) ys)) ≡ (list_any p (seen (take i ys)) || p x.now)
        → (b || list_any p (seen (take (suc i) ys))) ≡ ((b || list_any p (seen (take i ys))) || p x.now)
    go true ih = refl
    go false ih = ih

module _ (parts : Parts) (rows : List (Bor Item)) (i : ℕ) (x : Bor Item) (lt : i < length rows)
    (is : x ≡ get_or rows i x) (old : ℕ → Bor (List ℕ) → Bool)
    (have : (f : ℕ) (s : Bor (List ℕ)) → old f s ≡ list_any (holds_serial s.now f parts) (seen (take i rows))) where
  one_more : (f : ℕ) (s : List ℕ) → list_any (holds_serial s f parts) (seen (take (i + 1) rows))
      ≡ (list_any (holds_serial s f parts) (seen (take i rows)) || by_key (held_key parts x.now) f s)
  one_more f s = rw (add-one i, any-more (holds_serial s f parts) rows i x lt is, holds-is parts x.now f s) refl

  pub none_step : held_key parts x.now ≡ None → (f : ℕ) (s : Bor (List ℕ))
      → old f s ≡ list_any (holds_serial s.now f parts) (seen (take (i + 1) rows))
  none_step e f s =
      have f s
      ∙ sym (one_more f s.now ∙ ap (λ o. list_any (holds_serial s.now f parts) (seen (take i rows)) || by_key o f s.now)
      e ∙ or-false (list_any (holds_serial s.now f parts) (seen (take i rows))))

  pub some_step : (k : ℕ × Bor (List ℕ)) → held_key parts x.now ≡ Some (seen_key k) → (new : ℕ → Bor (List ℕ) → Bool)
      → ((f : ℕ) (s : Bor (List ℕ)) → new f s ≡ cond (nat_eq k.0 f && bytes_eq k.1.now s.now) true (old f s))
      → (f : ℕ) (s : Bor (List ℕ)) → new f s ≡ list_any (holds_serial s.now f parts) (seen (take (i + 1) rows))
  some_step k e new u f s =
      u f s ∙ ap (cond (nat_eq k.0 f && bytes_eq k.1.now s.now) true) (have f s)
      ∙ cond_or (nat_eq k.0 f && bytes_eq k.1.now s.now) (list_any (holds_serial s.now f parts) (seen (take i rows)))
      ∙ sym
      (one_more f s.now ∙ ap (λ o. list_any (holds_serial s.now f parts) (seen (take i rows)) || by_key o f s.now) e)
    where
      cond_or : (a b : Bool) → cond a true b ≡ (b || a)
      cond_or true true = refl
      cond_or true false = refl
      cond_or false true = refl
      cond_or false false = refl

-- each of the first items holds a key that none before it holds
abbrev pub AreFresh : Parts → List (Bor Item) → ℕ → Type 0
AreFresh parts rows i =
    (k : ℕ) (r : Bor Item) (f : ℕ) (s : List ℕ) → k < i → held_key parts (get_or rows k r).now ≡ Some (f, s)
    → list_any (holds_serial s f parts) (seen (take k rows)) ≡ false

get_or_any : (rows : List (Bor Item)) (k : ℕ) (r q : Bor Item) → k < length rows → get_or rows k r ≡ get_or rows k q
get_or_any [] k r q lt = absurd (omega (arith, lt))
get_or_any (x ∷ xs) zero r q lt = refl
get_or_any (x ∷ xs) (suc k) r q lt = get_or_any xs k r q (omega (arith, lt))

pub fresh_step : (parts : Parts) (rows : List (Bor Item)) (i : ℕ) (x : Bor Item) → i < length rows → x ≡ get_or rows i x
    → AreFresh parts rows i
    → ((f : ℕ) (s : List ℕ) → held_key parts x.now ≡ Some (f, s)
    → list_any (holds_serial s f parts) (seen (take i rows)) ≡ false)
    → AreFresh parts rows (i + 1)
fresh_step parts rows i x lt is h new k r f s le e = go (nat_lt k i) refl
  where
    go : (b : Bool) → nat_lt k i ≡ b → list_any (holds_serial s f parts) (seen (take k rows)) ≡ false
    go true t = h k r f s (ltb-true _ _ t) e
    go false t =
        let same : k ≡ i = omega (arith, ltb-false _ _ t, le) in
        let item : get_or rows k r ≡ x = ap (λ j. get_or rows j r) same ∙ get_or_any rows i r x lt ∙ sym is in
        ap (λ j. list_any (holds_serial s f parts) (seen (take j rows))) same
        ∙ new f s (ap (λ (z : Bor Item). held_key parts z.now) (sym item) ∙ e)

-- ---- what it says of the rows

first_of_rows : (rows : List (Bor Item)) (i : ℕ) → i < length rows → Bor Item
first_of_rows [] i lt = absurd (omega (arith, lt))
first_of_rows (x ∷ xs) i lt = x

-- a row stands at some index
row_index : (rows : List (Bor Item)) (n : ℕ) (x : Item) → row_at n (seen rows) ≡ Some x
    → (i : ℕ) × (i < length rows) × ((r : Bor Item) → (get_or rows i r).now ≡ x) × (x.number ≡ n)
row_index [] n x e = cc
row_index (y ∷ ys) n x e = go (y.now.number == n) refl e (row_index ys n x)
  where
    go : (b : Bool) → (y.now.number == n) ≡ b → (if b then Some y.now else row_at n (seen ys)) ≡ Some x
        → (row_at n (seen ys) ≡ Some x
        → (i : ℕ) × (i < length ys) × ((r : Bor Item) → (get_or ys i r).now ≡ x) × (x.number ≡ n))
        → (i : ℕ) × (i < length (y ∷ ys)) × ((r : Bor Item) → (get_or (y ∷ ys) i r).now ≡ x) × (x.number ≡ n)
    go true t e ih =
        let same : y.now ≡ x = cc in
        (0, omega arith, λ r. same, ap (λ (z : Item). z.number) (sym same) ∙ eqb-true _ _ t)
    go false t e ih = let h = ih e in (suc h.0, omega (arith, h.1), h.2, h.3)

-- a test that some row before passes, by the index of the row
any_at : (p : Item → Bool) (rows : List (Bor Item)) (j i : ℕ) (r : Bor Item) → j < i → i ≤ length rows
    → p (get_or rows j r).now ≡ true → list_any p (seen (take i rows)) ≡ true
any_at p [] j i r lt le e = absurd (omega (arith, lt, le))
any_at p (y ∷ ys) j zero r lt le e = absurd (omega (arith, lt))
any_at p (y ∷ ys) zero (suc i) r lt le e = rw e refl
any_at p (y ∷ ys) (suc j) (suc i) r lt le e = go (p y.now) (any_at p ys j i r (omega (arith, lt)) (omega (arith, le)) e)
  where
    go : (b : Bool) → list_any p (seen (take i ys)) ≡ true → (b || list_any p (seen (take i ys))) ≡ true
    go true h = refl
    go false h = h

-- and back
any_index : (p : Item → Bool) (rows : List (Bor Item)) (i : ℕ) (r : Bor Item) → i ≤ length rows
    → list_any p (seen (take i rows)) ≡ true → (j : ℕ) × (j < i) × (p (get_or rows j r).now ≡ true)
any_index p [] zero r le e = cc
any_index p [] (suc i) r le e = absurd (omega (arith, le))
any_index p (y ∷ ys) zero r le e = cc
any_index p (y ∷ ys) (suc i) r le e = go (p y.now) refl e (any_index p ys i r (omega (arith, le)))
  where
    go : (b : Bool) → p y.now ≡ b → (b || list_any p (seen (take i ys))) ≡ true
        → (list_any p (seen (take i ys)) ≡ true → (j : ℕ) × (j < i) × (p (get_or ys j r).now ≡ true))
        → (j : ℕ) × (j < suc i) × (p (get_or (y ∷ ys) j r).now ≡ true)
    go true t e ih = (0, omega arith, t)
    go false t e ih = let h = ih e in (suc h.0, omega (arith, h.1), h.2)

key_of : (o : Option Key) (f : ℕ) (s : List ℕ) → by_key o f s ≡ true
    → (k : Key) × (o ≡ Some k) × (k.0 ≡ f) × (bytes_eq k.1 s ≡ true)
key_of None f s e = cc
key_of (Some k) f s e = go (k.0 == f) refl e
  where
    go : (b : Bool) → (k.0 == f) ≡ b → (b && bytes_eq k.1 s) ≡ true
        → (q : Key) × (Some k ≡ Some q) × (q.0 ≡ f) × (bytes_eq q.1 s ≡ true)
    go true t e = (k, refl, eqb-true _ _ t, e)
    go false t e = cc

bytes_same : (a b : List ℕ) → bytes_eq a b ≡ true → a ≡ b
bytes_same a b e = (bytes_eq-Decides a b).0 e

module _ (parts : Parts) (rows : List (Bor Item)) (s : List ℕ) (f : ℕ) where
  -- two items that hold one key, the one before the other
  clash : (i j : ℕ) (r : Bor Item) → i < j → j < length rows → AreFresh parts rows (length rows)
      → holds_serial s f parts (get_or rows i r).now ≡ true → holds_serial s f parts (get_or rows j r).now ≡ true → ⊥
  clash i j r lt le fresh hx hy =
      let k = key_of (held_key parts (get_or rows j r).now) f s (sym (holds-is parts (get_or rows j r).now f s) ∙ hy) in
      let none = fresh j r k.0.0 k.0.1 le k.1 in
      let same_x : holds_serial k.0.1 k.0.0 parts (get_or rows i r).now ≡ true =
      ap (λ g. holds_serial k.0.1 g parts (get_or rows i r).now) k.2
      ∙ ap (λ t. holds_serial t f parts (get_or rows i r).now) (bytes_same k.0.1 s k.3)
      ∙ hx in
      let some = any_at (holds_serial k.0.1 k.0.0 parts) rows i j r lt (omega (arith, le)) same_x in
      apart (sym none ∙ some)
    where
      apart : false ≡ true → ⊥
      apart e = cc

-- no row holds a key that one before it holds: no serial stands twice
pub once_from : (parts : Parts) (rows : List (Bor Item)) → AreFresh parts rows (length rows)
    → SerialsOnce parts (seen rows)
once_from parts rows fresh s f n m x y ex ey hx hy =
    let i = row_index rows n x ex in
    let j = row_index rows m y ey in
    go i j (nat_lt i.0 j.0) refl (nat_lt j.0 i.0) refl
  where
    go : (i : (i : ℕ) × (i < length rows) × ((r : Bor Item) → (get_or rows i r).now ≡ x) × (x.number ≡ n))
        (j : (j : ℕ) × (j < length rows) × ((r : Bor Item) → (get_or rows j r).now ≡ y) × (y.number ≡ m))
        → (b : Bool) → nat_lt i.0 j.0 ≡ b → (c : Bool) → nat_lt j.0 i.0 ≡ c → n ≡ m
    go i j true t c u =
        absurd (clash parts rows s f i.0 j.0 (first_of_rows rows i.0 i.1) (ltb-true _ _ t) j.1 fresh
        (ap (holds_serial s f parts) (i.2 _) ∙ hx) (ap (holds_serial s f parts) (j.2 _) ∙ hy))
    go i j false t true u =
        absurd (clash parts rows s f j.0 i.0 (first_of_rows rows i.0 i.1) (ltb-true _ _ u) i.1 fresh
        (ap (holds_serial s f parts) (j.2 _) ∙ hy) (ap (holds_serial s f parts) (i.2 _) ∙ hx))
    go i j false t false u =
        let same : i.0 ≡ j.0 = omega (arith, ltb-false _ _ t, ltb-false _ _ u) in
        let r = first_of_rows rows i.0 i.1 in
        let item : x ≡ y = sym (i.2 r) ∙ ap (λ k. (get_or rows k r).now) same ∙ j.2 r in
        sym i.3 ∙ ap (λ (z : Item). z.number) item ∙ j.3

-- an item that holds a key that one before it holds
pub twice : (parts : Parts) (rows : List (Bor Item)) (i : ℕ) (x : Bor Item) (k : Key) → IsByNumber (seen rows)
    → i < length rows → x ≡ get_or rows i x
    → held_key parts x.now ≡ Some k → list_any (holds_serial k.1 k.0 parts) (seen (take i rows)) ≡ true
    → SerialsOnce parts (seen rows) → ⊥
twice parts rows i x k by lt is e some once =
    let j = any_index (holds_serial k.1 k.0 parts) rows i x (omega (arith, lt)) some in
    let y = get_or rows j.0 x in
    let less = numbers_less rows j.0 i x by j.1 lt in
    let in_x : holds_serial k.1 k.0 parts x.now ≡ true =
    holds-is parts x.now k.0 k.1
    ∙ ap (λ o. by_key o k.0 k.1) e
    ∙ self (k.0 == k.0) (eq-eqb k.0 k.0 refl) (bytes_eq k.1 k.1) (bytes_self k.1) in
    let same =
    once k.1 k.0 y.now.number x.now.number y.now x.now
    (sym (row_found rows y.now.number j.0 y by (omega (arith, j.1, lt))
    (get_or_any rows j.0 x y (omega (arith, j.1, lt))) refl))
    (sym (row_found rows x.now.number i x by lt is refl)) j.2 in_x in
    omega (arith, less, same, ap (λ (z : Bor Item). z.now.number) is)
  where
    self : (a : Bool) → a ≡ true → (b : Bool) → b ≡ true → (a && b) ≡ true
    self a t b u = rw (t, u) refl

    bytes_self : (bs : List ℕ) → bytes_eq bs bs ≡ true
    bytes_self bs = (bytes_eq-Decides bs bs).1 refl
