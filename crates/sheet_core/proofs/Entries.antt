-- A write and a push among entries with distinct keys, and a removal from a finite map, as a look-up sees them.
use Rattle.std.proofs.Common.{◌≡◌, ◌≢◌, ℕ, suc, zero, Bool, true, false, cond, List, []}
use Rattle.std.proofs.Common.{◌∷◌, ◌++◌, Option, Some, None, set, refl, sym, ap, ◌∙◌}
use Rattle.std.specs.Prelude.{slice_get, option_map}
use Rattle.std.specs.FinMap as table
use Rattle.std.specs.FinMap.Entries.{find-append}
use Rattle.sheet_core.specs.Sheet.{key_cmp, IsDistinct, HasKeyAt, Table, table_of}
use Rattle.sheet_core.proofs.Keys.{key_eq, keys_total, keys_exact, key_eq-true, key_eq-other, key_eq-same, key_eq-false}

same_key : (a b : List ℕ) → Some a ≡ Some b → a ≡ b
same_key a b e = cc

module _ {X : Type 0} where
  abbrev pub find_in : List ℕ → List (List ℕ × X) → Option X
  find_in = table.find key_cmp

  not_absent : (o : Option (List ℕ × X)) (k : List ℕ) → option_map (λ e. e.0) o ≡ Some k
      → None ≡ option_map (λ (e : List ℕ × X). e.1) o → ⊥
  not_absent None k h is = cc
  not_absent (Some x) k h is = cc

  -- a key that stands in the list is found
  pub find-at : (es : List (List ℕ × X)) (i : ℕ) (k : List ℕ) → IsDistinct es → HasKeyAt es i k
      → find_in k es ≡ option_map (λ e. e.1) (slice_get es i)
  find-at [] i k d h = cc
  find-at (e ∷ es) zero k d h = ap (λ b. cond b (Some e.1) (find_in k es)) (key_eq-same k e.0 (sym (same_key _ _ h)))
  find-at (e ∷ es) (suc i) k d h =
      let rest = find-at es i k d.1 h in
      elim (key_eq k e.0) as (λ b.
      key_eq k e.0 ≡ b → cond b (Some e.1) (find_in k es) ≡ option_map (λ (e : List ℕ × X). e.1) (slice_get es i)) [
        | true ↦
            λ p.
            absurd (not_absent (slice_get es i) k h (sym (ap (λ q. find_in q es) (key_eq-true k e.0 p) ∙ d.0) ∙ rest))
        | false ↦ λ p. rest
      ] refl

  -- the first key is not among the others
  pub apart : (e : List ℕ × X) (es : List (List ℕ × X)) (i : ℕ) (k : List ℕ) → IsDistinct (e ∷ es)
      → HasKeyAt es i k → e.0 ≢ k
  apart e es i k d h same =
      not_absent (slice_get es i) k h (sym d.0 ∙ ap (λ q. find_in q es) same ∙ find-at es i k d.1 h)

  hidden : (b : Bool) (x y z : Option X) → cond b x (cond b y z) ≡ cond b x z
  hidden true x y z = refl
  hidden false x y z = refl

  -- two tests that do not both hold may be made in either order
  turned : (a b : List ℕ) (q : List ℕ) (x y z : Option X) → a ≢ b
      → cond (key_eq q a) x (cond (key_eq q b) y z) ≡ cond (key_eq q b) y (cond (key_eq q a) x z)
  turned a b q x y z other =
      elim (key_eq q a) as (λ c. key_eq q a ≡ c → cond c x (cond (key_eq q b) y z) ≡ cond (key_eq q b) y (cond c x z)) [
        | true ↦ λ p. sym (ap (λ c. cond c y x) (key_eq-other q b (λ s. other (sym (key_eq-true q a p) ∙ s))))
        | false ↦ λ p. refl
      ] refl

  pub find-set : (es : List (List ℕ × X)) (i : ℕ) (k : List ℕ) (v : X) (q : List ℕ) → IsDistinct es → HasKeyAt es i k
      → find_in q (set es i (k, v)) ≡ cond (key_eq q k) (Some v) (find_in q es)
  find-set [] i k v q d h = cc
  find-set (e ∷ es) zero k v q d h =
      sym (ap (λ c. cond (key_eq q k) (Some v) (cond (key_eq q c) (Some e.1) (find_in q es))) (same_key _ _ h)
      ∙ hidden (key_eq q k) (Some v) (Some e.1) (find_in q es))
  find-set (e ∷ es) (suc i) k v q d h =
      ap (cond (key_eq q e.0) (Some e.1)) (find-set es i k v q d.1 h)
      ∙ turned e.0 k q (Some e.1) (Some v) (find_in q es) (apart e es i k d h)

  pub IsDistinct-set : (es : List (List ℕ × X)) (i : ℕ) (k : List ℕ) (v : X) → IsDistinct es → HasKeyAt es i k
      → IsDistinct (set es i (k, v))
  IsDistinct-set [] i k v d h = tt
  IsDistinct-set (e ∷ es) zero k v d h = (ap (λ q. find_in q es) (sym (same_key _ _ h)) ∙ d.0, d.1)
  IsDistinct-set (e ∷ es) (suc i) k v d h = (
    find-set es i k v e.0 d.1 h
        ∙ ap (λ c. cond c (Some v) (find_in e.0 es)) (key_eq-other e.0 k (apart e es i k d h))
        ∙ d.0,
    IsDistinct-set es i k v d.1 h,
  )

  pub not_first : (e : List ℕ × X) (es : List (List ℕ × X)) (k : List ℕ) → find_in k (e ∷ es) ≡ None
      → (e.0 ≢ k) × (find_in k es ≡ None)
  not_first e es k none =
      elim (key_eq k e.0)
      as (λ c. key_eq k e.0 ≡ c → cond c (Some e.1) (find_in k es) ≡ None → (e.0 ≢ k) × (find_in k es ≡ None)) [
        | true ↦ λ p n. cc
        | false ↦ λ p n. (λ s. key_eq-false k e.0 p (sym s), n)
      ] refl none

  pub IsDistinct-push : (es : List (List ℕ × X)) (k : List ℕ) (v : X) → IsDistinct es → find_in k es ≡ None
      → IsDistinct (es ++ (k, v) ∷ [])
  IsDistinct-push [] k v d none = (refl, tt)
  IsDistinct-push (e ∷ es) k v d none =
      let other = not_first e es k none in (
        find-append key_cmp keys_total es k v e.0 other.1
            ∙ ap (λ c. cond c (Some v) (find_in e.0 es)) (key_eq-other e.0 k other.0)
            ∙ d.0,
        IsDistinct-push es k v d.1 other.1,
      )

  pub get-absent : (es : List (List ℕ × X)) (k : List ℕ) → find_in k es ≡ None → table.get (table_of es) k ≡ None
  get-absent es k none = table.get-from_entries keys_total es k ∙ none

  -- to remove a key that is not there changes nothing
  pub remove-absent : (m : Table X) (k : List ℕ) → table.get m k ≡ None → table.remove m k ≡ m
  remove-absent m k none = table.same_map keys_total keys_exact _ _ (λ q.
      table.get-remove keys_total m k q
      ∙ elim (key_eq q k) as (λ c. key_eq q k ≡ c → cond c None (table.get m q) ≡ table.get m q) [
        | true ↦ λ p. sym (ap (table.get m) (key_eq-true q k p) ∙ none)
        | false ↦ λ p. refl
      ] refl)
