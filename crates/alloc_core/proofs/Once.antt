-- Rows of a table stand once, by their numbers, and so do those that pass a test.
use Rattle.std.proofs.Common.{◌≡◌, ◌⊎◌, inl, inr, ℕ, Bool, true, false, cond, ◌||◌, List}
use Rattle.std.proofs.Common.{[], ◌∷◌, ◌++◌, map, refl, sym, ap, ◌∙◌, subst, eqb-true}
use Rattle.std.specs.Prelude.{◌==◌, filter}
use Rattle.std.specs.List.{list_any}
use Rattle.std.specs.FinMap as table
use Rattle.std.specs.declared.cmp.Ordering.TheVariants.{Less}
use Rattle.std.proofs.lemmas.Bool.{eq-eqb}
use Rattle.sheet_core.specs.Filled.{StandUnderKeys}
use Rattle.sheet_core.specs.Sheet.{Table, key_cmp}
use Rattle.word_core.specs.Twice.{stands_twice}
use Rattle.sheet_core.proofs.Conditions.{is_true, not_true, or_none}
use Rattle.sheet_core.proofs.Keys.{key_eq-self}
use Rattle.sheet_core.proofs.Selects.{AreAbove, Rises, Rises-from}
use Rattle.sheet_core.proofs.Standing.{Stands}
use Rattle.yard_core.specs.Stock.{keyed}
use Rattle.yard_core.proofs.OwnKeys.{own-keyed}

abbrev pub is_same : ℕ → ℕ → Bool
is_same m n = m == n

-- no number stands twice
abbrev pub StandOnce : List ℕ → Type 0
StandOnce ns = stands_twice is_same ns ≡ false

abbrev pub HasNo : ℕ → List ℕ → Type 0
HasNo n ns = list_any (λ m. m == n) ns ≡ false

-- ---- what stands in lists

module _ {X : Type 0} where
  pub Stands-append : (xs ys : List X) (x : X) → Stands x (xs ++ ys) → Stands x xs ⊎ Stands x ys
  Stands-append [] ys x s = inr s
  Stands-append (z ∷ zs) ys x s = elim s [
    | inl e ↦ inl (inl e)
    | inr r ↦ elim (Stands-append zs ys x r) [ inl a ↦ inl (inr a) | inr b ↦ inr b ]
  ]

  pub Stands-passes : (p : X → Bool) (xs : List X) (x : X) → Stands x (filter p xs) → Stands x xs × (p x ≡ true)
  Stands-passes p [] x s = absurd s
  Stands-passes p (y ∷ ys) x s = go (p y) refl s (Stands-passes p ys x)
    where
      go : (b : Bool) → p y ≡ b → Stands x (cond b (y ∷ filter p ys) (filter p ys))
          → (Stands x (filter p ys) → Stands x ys × (p x ≡ true)) → ((y ≡ x) ⊎ Stands x ys) × (p x ≡ true)
      go true e (inl i) ih = (inl i, sym (ap p i) ∙ e)
      go true e (inr r) ih = let h = ih r in (inr h.0, h.1)
      go false e r ih = let h = ih r in (inr h.0, h.1)

  pub Stands-filter : (p : X → Bool) (xs : List X) (x : X) → Stands x xs → p x ≡ true → Stands x (filter p xs)
  Stands-filter p [] x h e = absurd h
  Stands-filter p (y ∷ ys) x h e = elim h [
    | inl same ↦ subst (λ b. Stands x (cond b (y ∷ filter p ys) (filter p ys))) (sym (ap p same ∙ e)) (inl same)
    | inr later ↦ go (p y) (Stands-filter p ys x later e)
  ]
    where
      go : (b : Bool) → Stands x (filter p ys) → Stands x (cond b (y ∷ filter p ys) (filter p ys))
      go true r = inr r
      go false r = r

  module _ (number : X → ℕ) where
    -- a number of the list is that of a row
    pub Stands-number : (xs : List X) (n : ℕ) → Stands n (map number xs) → (x : X) × Stands x xs × (number x ≡ n)
    Stands-number [] n s = absurd s
    Stands-number (y ∷ ys) n s = elim s [
      | inl e ↦ (y, inl refl, e)
      | inr r ↦ let h = Stands-number ys n r in (h.0, inr h.1, h.2)
    ]

    pub number-Stands : (xs : List X) (x : X) → Stands x xs → Stands (number x) (map number xs)
    number-Stands [] x s = absurd s
    number-Stands (y ∷ ys) x s = elim s [ inl e ↦ inl (ap number e) | inr r ↦ inr (number-Stands ys x r) ]

    -- ---- the rows of a table

    later : (n m : ℕ) → key_cmp (n ∷ []) (m ∷ []) ≡ Less → (m == n) ≡ false
    later n m less = not_true (m == n) (λ e. clash (eqb-true m n e))
      where
        clash : m ≡ n → ⊥
        clash same =
            let bad = sym less ∙ ap (λ k. key_cmp (n ∷ []) (k ∷ [])) same in
            let self = key_eq-self (n ∷ []) in cc

    above : (n : ℕ) (xs : List X) → AreAbove (λ x. true) (n ∷ []) (keyed number xs) → HasNo n (map number xs)
    above n [] a = refl
    above n (x ∷ xs) a = ap (λ b. b || list_any (λ m. m == n) (map number xs)) (later n (number x) a.0) ∙ above n xs a.1

    rising : (xs : List X) → Rises (λ x. true) (keyed number xs) → StandOnce (map number xs)
    rising [] r = refl
    rising (x ∷ xs) r = ap (λ b. b || stands_twice is_same (map number xs)) (above (number x) xs r.0) ∙ rising xs r.1

    pub rows-once : (t : Table X) → StandUnderKeys (λ x. number x ∷ []) t → StandOnce (map number (table.values t))
    rows-once t own =
        rising (table.values t)
        (subst (Rises (λ x. true)) (own-keyed number t own)
        (Rises-from (λ x. true) (table.entries t) (is_true _ (table.entries_sorted t))))

    -- ---- rows that pass

    none-passing : (p : X → Bool) (n : ℕ) (xs : List X) → HasNo n (map number xs) → HasNo n (map number (filter p xs))
    none-passing p n [] e = refl
    none-passing p n (x ∷ xs) e = let both = or_none _ _ e in go (p x) both.0 (none-passing p n xs both.1)
      where
        go : (b : Bool) → (number x == n) ≡ false → HasNo n (map number (filter p xs))
            → HasNo n (map number (cond b (x ∷ filter p xs) (filter p xs)))
        go true e rest = ap (λ b. b || list_any (λ m. m == n) (map number (filter p xs))) e ∙ rest
        go false e rest = rest

    pub passing-once : (p : X → Bool) (xs : List X) → StandOnce (map number xs) → StandOnce (map number (filter p xs))
    passing-once p [] e = refl
    passing-once p (x ∷ xs) e =
        let both = or_none _ _ e in
        go (p x) (none-passing p (number x) xs both.0) (passing-once p xs both.1)
      where
        go : (b : Bool) → HasNo (number x) (map number (filter p xs)) → StandOnce (map number (filter p xs))
            → StandOnce (map number (cond b (x ∷ filter p xs) (filter p xs)))
        go true none rest = ap (λ b. b || stands_twice is_same (map number (filter p xs))) none ∙ rest
        go false none rest = rest

    -- a number that isn't there is none of those that are
    pub absent : (n : ℕ) (xs : List X) (x : X) → HasNo n (map number xs) → Stands x xs → number x ≡ n → ⊥
    absent n [] x e s is = absurd s
    absent n (y ∷ ys) x e s is = let both = or_none _ _ e in elim s [
      | inl i ↦ let clash : true ≡ false = sym (eq-eqb (number y) n (ap number i ∙ is)) ∙ both.0 in cc
      | inr r ↦ absent n ys x both.1 r is
    ]

    -- rows of one number are one
    pub one-row : (xs : List X) (x y : X) → StandOnce (map number xs) → Stands x xs → Stands y xs
        → number x ≡ number y → x ≡ y
    one-row [] x y e s t is = absurd s
    one-row (z ∷ zs) x y e s t is = let both = or_none _ _ e in elim s [
      | inl i ↦ elim t [
        | inl j ↦ sym i ∙ j
        | inr r ↦ absurd (absent (number z) zs y both.0 r (sym is ∙ ap number (sym i)))
      ]
      | inr r ↦ elim t [
        | inl j ↦ absurd (absent (number z) zs x both.0 r (is ∙ ap number (sym j)))
        | inr q ↦ one-row zs x y both.1 r q is
      ]
    ]

-- ---- lists of numbers

-- a number that stands nowhere
pub has-none : (n : ℕ) (ns : List ℕ) → (Stands n ns → ⊥) → HasNo n ns
has-none n [] h = refl
has-none n (m ∷ ms) h =
    ap (λ b. b || list_any (λ k. k == n) ms) (not_true (m == n) (λ e. h (inl (eqb-true m n e))))
    ∙ has-none n ms (λ s. h (inr s))

-- no number of one list stands in the other
abbrev pub AreApart : List ℕ → List ℕ → Type 0
AreApart ms ns = (n : ℕ) → Stands n ms → Stands n ns → ⊥

none-append : (n : ℕ) (ms ns : List ℕ) → HasNo n ms → HasNo n ns → HasNo n (ms ++ ns)
none-append n [] ns e f = f
none-append n (m ∷ ms) ns e f =
    let both = or_none _ _ e in
    ap (λ b. b || list_any (λ k. k == n) (ms ++ ns)) both.0 ∙ none-append n ms ns both.1 f

pub append-once : (ms ns : List ℕ) → StandOnce ms → StandOnce ns → AreApart ms ns → StandOnce (ms ++ ns)
append-once [] ns e f apart = f
append-once (m ∷ ms) ns e f apart =
    let both = or_none _ _ e in
    ap (λ b. b || stands_twice is_same (ms ++ ns)) (none-append m ms ns both.0 (has-none m ns (apart m (inl refl))))
    ∙ append-once ms ns both.1 f (λ n s t. apart n (inr s) t)
