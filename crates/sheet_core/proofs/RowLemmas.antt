-- What holds of a table's rows after one is put or goes, and of the rows under numbers that were drawn.
use Rattle.std.proofs.Common.{◌≡◌, ◌≢◌, ◌⊎◌, inl, inr, ◌<◌, ◌≤◌, ◌+◌, ℕ, Bool, true, false, cond, List, []}
use Rattle.std.proofs.Common.{◌∷◌, Option, Some, None, refl, sym, ap, ◌∙◌, subst, arith, get_or, is_some}
use Rattle.std.specs.FinMap as table
use Rattle.sheet_core.specs.Sheet.{Table, key_cmp}
use Rattle.sheet_core.specs.Rows.{EachRow, IsThere, StandRight, StandsRight, StayThere}
use Rattle.sheet_core.proofs.Keys.{key_eq, keys_total, key_eq-self, key_eq-true, key_eq-other}

pub same_digit : (a b : ℕ) → a ∷ [] ≡ b ∷ [] → a ≡ b
same_digit a b e = ap (λ (xs : List ℕ). get_or xs 0 0) e

module _ {X : Type 0} where
  pub same_row : (a b : X) → Some a ≡ Some b → a ≡ b
  same_row a b e = cc

  -- a row that is there after one was put is that one, or was there
  pub get-insert_cases : (t : Table X) (q : List ℕ) (v : X) (k : List ℕ) (x : X)
      → table.get (table.insert t q v) k ≡ Some x → ((k ≡ q) × (v ≡ x)) ⊎ (table.get t k ≡ Some x)
  get-insert_cases t q v k x e =
      elim (key_eq k q) as (λ b.
      key_eq k q ≡ b → cond b (Some v) (table.get t k) ≡ Some x → ((k ≡ q) × (v ≡ x)) ⊎ (table.get t k ≡ Some x)) [
        | true ↦ λ p h. inl (key_eq-true k q p, same_row v x h)
        | false ↦ λ p h. inr h
      ] refl (sym (table.get-insert keys_total t q v k) ∙ e)

  pub get-insert_new : (t : Table X) (q : List ℕ) (v : X) → table.get (table.insert t q v) q ≡ Some v
  get-insert_new t q v = table.get-insert keys_total t q v q ∙ ap (λ b. cond b (Some v) (table.get t q)) (key_eq-self q)

  pub get-insert_other : (t : Table X) (q : List ℕ) (v : X) (k : List ℕ) → k ≢ q
      → table.get (table.insert t q v) k ≡ table.get t k
  get-insert_other t q v k other =
      table.get-insert keys_total t q v k ∙ ap (λ b. cond b (Some v) (table.get t k)) (key_eq-other k q other)

  -- a row that is there after one went was there, under another key
  pub get-remove_cases : (t : Table X) (q k : List ℕ) (x : X) → table.get (table.remove t q) k ≡ Some x
      → (k ≢ q) × (table.get t k ≡ Some x)
  get-remove_cases t q k x e =
      elim (key_eq k q)
      as (λ b. key_eq k q ≡ b → cond b None (table.get t k) ≡ Some x → (k ≢ q) × (table.get t k ≡ Some x)) [
        | true ↦ λ p h. cc
        | false ↦ λ p h. (λ same. let s : key_eq k q ≡ true = ap (key_eq k) (sym same) ∙ key_eq-self k in cc, h)
      ] refl (sym (table.get-remove keys_total t q k) ∙ e)

  -- ---- rows that are there

  pub there : (t : Table X) (n : ℕ) (x : X) → table.get t (n ∷ []) ≡ Some x → IsThere t n
  there t n x e = ap (λ (o : Option X). is_some o) e

  pub row_there : (t : Table X) (n : ℕ) → IsThere t n → (x : X) × (table.get t (n ∷ []) ≡ Some x)
  row_there t n h =
      elim (table.get t (n ∷ []))
      as (λ o. table.get t (n ∷ []) ≡ o → is_some o ≡ true → (x : X) × (table.get t (n ∷ []) ≡ Some x)) [
        | None ↦ λ p e. cc
        | Some x ↦ λ p e. (x, p)
      ] refl h

  -- the rows that were there are there after one was put
  pub stay-insert : (t : Table X) (q : List ℕ) (v : X) → StayThere t (table.insert t q v)
  stay-insert t q v k h =
      subst (λ (o : Option X). is_some o ≡ true) (sym (table.get-insert keys_total t q v k))
      (go (key_eq k q))
    where
      go : (b : Bool) → is_some (cond b (Some v) (table.get t k)) ≡ true
      go true = refl
      go false = h

  pub there-insert : (t : Table X) (q : List ℕ) (v : X) (n : ℕ) → IsThere t n → IsThere (table.insert t q v) n
  there-insert t q v n h = stay-insert t q v (n ∷ []) h

  pub there-new : (t : Table X) (n : ℕ) (v : X) → IsThere (table.insert t (n ∷ []) v) n
  there-new t n v = there (table.insert t (n ∷ []) v) n v (get-insert_new t (n ∷ []) v)

  -- what holds of each row, and of the one that is put
  pub each-insert : (P : X → Type 0) (t : Table X) (q : List ℕ) (v : X) → P v → EachRow P t
      → EachRow P (table.insert t q v)
  each-insert P t q v new each k x e =
      elim (get-insert_cases t q v k x e) [ inl i ↦ subst P i.1 new | inr i ↦ each k x i ]

  -- what holds of each row, and follows from another fact
  pub each-so : (P Q : X → Type 0) (t : Table X) → ((k : List ℕ) (x : X) → table.get t k ≡ Some x → P x → Q x)
      → EachRow P t → EachRow Q t
  each-so P Q t f each k x e = f k x e (each k x e)

  -- ---- rows under their own numbers

  module _ (number : X → ℕ) where
    pub right-later : (next more : ℕ) (t : Table X) → next ≤ more → StandRight number next t → StandRight number more t
    right-later next more t le right k x e =
        let r = right k x e in
        record { own = r.own; some = r.some; drawn = omega (arith, r.drawn, le) }

    pub right-insert : (next n : ℕ) (x : X) (t : Table X) → number x ≡ n → 1 ≤ n → n < next → StandRight number next t
        → StandRight number next (table.insert t (n ∷ []) x)
    right-insert next n x t is some drawn right k y e = elim (get-insert_cases t (n ∷ []) x k y e) [
      | inl i ↦ subst (λ z. StandsRight number next k z) i.1 (record {
        own = i.0 ∙ ap (λ m. m ∷ []) (sym is);
        some = omega (arith, is, some);
        drawn = omega (arith, is, drawn);
      })
      | inr i ↦ right k y i
    ]

    -- a row under the next number, which is drawn
    pub right-new : (next : ℕ) (x : X) (t : Table X) → number x ≡ next → 1 ≤ next → StandRight number next t
        → StandRight number (next + 1) (table.insert t (next ∷ []) x)
    right-new next x t is some right =
        right-insert (next + 1) next x t is some (omega arith) (right-later next (next + 1) t (omega arith) right)

    -- another row in the place of one
    pub right-changed : (next n : ℕ) (x old : X) (t : Table X) → table.get t (n ∷ []) ≡ Some old → number x ≡ number old
        → StandRight number next t → StandRight number next (table.insert t (n ∷ []) x)
    right-changed next n x old t there same right =
        let r = right (n ∷ []) old there in
        let own = same_digit n (number old) r.own in
        right-insert next n x t (same ∙ sym own) (omega (arith, own, r.some)) (omega (arith, own, r.drawn)) right

    pub right-remove : (next : ℕ) (t : Table X) (q : List ℕ) → StandRight number next t
        → StandRight number next (table.remove t q)
    right-remove next t q right k x e = right k x (get-remove_cases t q k x e).1

    -- a number that is still to be drawn has no row
    pub right-none : (next n : ℕ) (t : Table X) → StandRight number next t → next ≤ n → table.get t (n ∷ []) ≡ None
    right-none next n t right le =
        elim (table.get t (n ∷ [])) as (λ o. table.get t (n ∷ []) ≡ o → o ≡ None) [
          | None ↦ λ p. refl
          | Some x ↦
              λ p. absurd (let r = right (n ∷ []) x p in
              let own = same_digit n (number x) r.own in
              omega (arith, own, r.drawn, le))
        ] refl

    -- the row of a number has that number
    pub right-number : (next n : ℕ) (x : X) (t : Table X) → StandRight number next t → table.get t (n ∷ []) ≡ Some x
        → number x ≡ n
    right-number next n x t right e = sym (same_digit n (number x) (right (n ∷ []) x e).own)

    pub right-empty : (next : ℕ) → StandRight number next table.empty
    right-empty next k x e = let clash : ◌≡◌ {A = Option X} None (Some x) = sym (table.get-empty key_cmp k) ∙ e in cc

  pub each-empty : (P : X → Type 0) → EachRow P table.empty
  each-empty P k x e = let clash : ◌≡◌ {A = Option X} None (Some x) = sym (table.get-empty key_cmp k) ∙ e in cc
