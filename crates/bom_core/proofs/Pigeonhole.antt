-- Walks of as many steps as there are parts reach all that any walk reaches: what is reached within n steps grows with
-- n until it is stable, and it can't grow more often than there are parts.
use Rattle.std.proofs.Common.{◌≡◌, ◌↔◌, ◌+◌, ◌<◌, ◌≤◌, ℕ, suc, zero, Bool, true, false, cond}
use Rattle.std.proofs.Common.{◌⊎◌, inl, inr, List, [], ◌∷◌, length, refl, sym, ap, ◌∙◌, arith}
use Rattle.std.specs.Prelude.{◌&&◌}
use Rattle.std.specs.List.{list_any}
use Rattle.std.proofs.lemmas.Bool.{or_left, or_right}
use Rattle.bom_core.specs.Walks.{StepsFrom, leads}
use Rattle.sheet_core.proofs.Conditions.{or_cases, and_parts, and_both}
use Rattle.sheet_core.proofs.Standing.{Stands, any-found, any-from}

-- how many pass
held : (ℕ → Bool) → List ℕ → ℕ
held p [] = 0
held p (x ∷ xs) = cond (p x) 1 0 + held p xs

held-most : (p : ℕ → Bool) (xs : List ℕ) → held p xs ≤ length xs
unfolding held
held-most p [] = omega arith
held-most p (x ∷ xs) = go (p x) (held-most p xs)
  where
    go : (b : Bool) → held p xs ≤ length xs → cond b 1 0 + held p xs ≤ length (x ∷ xs)
    go true ih = omega arith
    go false ih = omega arith

-- where as many pass as there are, all do
held-full : (p : ℕ → Bool) (xs : List ℕ) → length xs ≤ held p xs → (x : ℕ) → Stands x xs → p x ≡ true
unfolding held
held-full p [] h x s = absurd s
held-full p (y ∷ ys) h x s = go (p y) refl h (held-most p ys) (held-full p ys) s
  where
    go : (b : Bool) → p y ≡ b → length (y ∷ ys) ≤ cond b 1 0 + held p ys → held p ys ≤ length ys
        → (length ys ≤ held p ys → (x : ℕ) → Stands x ys → p x ≡ true) → (y ≡ x) ⊎ Stands x ys → p x ≡ true
    go true e h m ih (inl i) = ap p (sym i) ∙ e
    go true e h m ih (inr s) = ih (omega arith) x s
    go false e h m ih s = absurd (omega arith)

module _ (p q : ℕ → Bool) (more : (x : ℕ) → p x ≡ true → q x ≡ true) where
  held-le : (xs : List ℕ) → held p xs ≤ held q xs
  unfolding held
  held-le [] = omega arith
  held-le (x ∷ xs) = go (p x) (q x) (more x) (held-le xs)
    where
      go : (a b : Bool) → (a ≡ true → b ≡ true) → held p xs ≤ held q xs
          → cond a 1 0 + held p xs ≤ cond b 1 0 + held q xs
      go true true f ih = omega arith
      go true false f ih = absurd (let e = f refl in cc)
      go false true f ih = omega arith
      go false false f ih = omega arith

  -- more pass, or the same ones
  held-step : (xs : List ℕ) → (held p xs < held q xs) ⊎ ((x : ℕ) → Stands x xs → q x ≡ true → p x ≡ true)
  unfolding held
  held-step [] = inr (λ x s e. absurd s)
  held-step (x ∷ xs) = go (p x) refl (q x) refl (held-step xs) (held-le xs)
    where
      go : (a : Bool) → p x ≡ a → (b : Bool) → q x ≡ b
          → (held p xs < held q xs) ⊎ ((y : ℕ) → Stands y xs → q y ≡ true → p y ≡ true) → held p xs ≤ held q xs
          → (cond a 1 0 + held p xs < cond b 1 0 + held q xs)
          ⊎ ((y : ℕ) → (x ≡ y) ⊎ Stands y xs → q y ≡ true → p y ≡ true)
      go true e false f ih le = absurd (let h = more x e in cc)
      go false e true f ih le = inl (omega arith)
      go true e true f (inl h) le = inl (omega arith)
      go false e false f (inl h) le = inl (omega arith)
      go true e true f (inr h) le = inr (λ y s t. elim s [ inl i ↦ ap p (sym i) ∙ e | inr r ↦ h y r t ])
      go false e false f (inr h) le =
          inr (λ y s t. elim s [ inl i ↦ (let u : q x ≡ true = ap q i ∙ t in cc) | inr r ↦ h y r t ])

module _ (step : ℕ → ℕ → Bool) (by : List ℕ) (a : ℕ) where
  reach : ℕ → ℕ → Bool
  reach n b = leads step by n a b

  leads-more : (n b : ℕ) → leads step by n a b ≡ true → leads step by (suc n) a b ≡ true
  leads-more zero b e = cc
  leads-more (suc n) b e =
      elim (or_cases (step a b) _ e) [
        | inl h ↦ or_left _ _ h
        | inr h ↦
            let f = any-found (λ c. leads step by n a c && step c b) by h in
            let t = and_parts (leads step by n a f.0) _ f.2 in
            or_right (step a b) _
            (any-from (λ c. leads step by (suc n) a c && step c b) by f.0 f.1 (and_both _ _ (leads-more n f.0 t.0) t.1))
      ]

  -- a step more reaches no other part
  abbrev Stable : ℕ → Type 0
  Stable n = (b : ℕ) → Stands b by → leads step by (suc n) a b ≡ true → leads step by n a b ≡ true

  stable-more : (n : ℕ) → Stable n → Stable (suc n)
  stable-more n s b here e = go (or_cases (step a b) _ e)
    where
      go : (step a b ≡ true) ⊎ (list_any (λ c. leads step by (suc n) a c && step c b) by ≡ true)
          → leads step by (suc n) a b ≡ true
      go (inl h) = or_left _ _ h
      go (inr h) =
          let f = any-found (λ c. leads step by (suc n) a c && step c b) by h in
          let t = and_parts (leads step by (suc n) a f.0) _ f.2 in
          or_right (step a b) _
          (any-from (λ c. leads step by n a c && step c b) by f.0 f.1 (and_both _ _ (s f.0 f.1 t.0) t.1))

  rise : (n : ℕ) → (n ≤ held (λ b. leads step by n a b) by) ⊎ Stable n
  rise zero = inl (omega arith)
  rise (suc n) = go (rise n)
    where
      next : n ≤ held (λ b. leads step by n a b) by
          → (held (λ b. leads step by n a b) by < held (λ b. leads step by (suc n) a b) by)
          ⊎ ((b : ℕ) → Stands b by → leads step by (suc n) a b ≡ true → leads step by n a b ≡ true)
          → (suc n ≤ held (λ b. leads step by (suc n) a b) by) ⊎ Stable (suc n)
      next h (inl lt) = inl (omega arith)
      next h (inr s) = inr (stable-more n s)

      go : (n ≤ held (λ b. leads step by n a b) by) ⊎ Stable n
          → (suc n ≤ held (λ b. leads step by (suc n) a b) by) ⊎ Stable (suc n)
      go (inl h) = next h (held-step (λ b. leads step by n a b) (λ b. leads step by (suc n) a b) (leads-more n) by)
      go (inr s) = inr (stable-more n s)

  stable_at_length : Stable (length by)
  stable_at_length = go (rise (length by))
    where
      go : (length by ≤ held (λ b. leads step by (length by) a b) by) ⊎ Stable (length by) → Stable (length by)
      go (inl h) = λ b s e. held-full (λ b. leads step by (length by) a b) by h b s
      go (inr s) = s

  pub leads-walk : (n b : ℕ) → leads step by n a b ≡ true → (m : ℕ) × StepsFrom step m a b
  leads-walk zero b e = cc
  leads-walk (suc n) b e =
      elim (or_cases (step a b) _ e) [
        | inl h ↦ (0, h)
        | inr h ↦
            let f = any-found (λ c. leads step by n a c && step c b) by h in
            let t = and_parts (leads step by n a f.0) _ f.2 in
            let w = leads-walk n f.0 t.0 in
            (suc w.0, (f.0, w.1, t.1))
      ]

  module _ (known : (p q : ℕ) → step p q ≡ true → Stands q by) where
    settled : (n b : ℕ) → leads step by n a b ≡ true → leads step by (length by) a b ≡ true
    settled zero b e = cc
    settled (suc n) b e =
        elim (or_cases (step a b) _ e) [
          | inl h ↦ stable_at_length b (known a b h) (or_left (step a b) _ h)
          | inr h ↦
              let f = any-found (λ c. leads step by n a c && step c b) by h in
              let t = and_parts (leads step by n a f.0) _ f.2 in
              stable_at_length b (known f.0 b t.1)
              (or_right (step a b) _
              (any-from (λ c. leads step by (length by) a c && step c b) by f.0 f.1
              (and_both _ _ (settled n f.0 t.0) t.1)))
        ]

    ends : (n b : ℕ) → StepsFrom step n a b → Stands b by
    ends zero b w = known a b w
    ends (suc n) b w = known w.0 b w.2

    walk-leads : (n b : ℕ) → StepsFrom step n a b → leads step by (suc n) a b ≡ true
    walk-leads zero b w = or_left (step a b) _ w
    walk-leads (suc n) b w =
        or_right (step a b) _
        (any-from (λ c. leads step by (suc n) a c && step c b) by w.0 (ends n w.0 w.1)
        (and_both _ _ (walk-leads n w.0 w.1) w.2))

    pub leads_is_walk : (b : ℕ) → (leads step by (length by) a b ≡ true) ↔ ((n : ℕ) × StepsFrom step n a b)
    leads_is_walk b = (leads-walk (length by) b, λ w. settled (suc w.0) b (walk-leads w.0 b w.1))

    pub end_stands : (b : ℕ) → (n : ℕ) × StepsFrom step n a b → Stands b by
    end_stands b w = ends w.0 b w.1
