-- Rows of a table after one is put or goes.
use Rattle.std.proofs.Common.{◌≡◌, ◌≢◌, ℕ, Bool, true, cond, List, [], ◌∷◌, Some, None, refl, sym, ap, ◌∙◌}
use Rattle.std.specs.FinMap as table
use Rattle.sheet_core.specs.Sheet.{Table}
use Rattle.sheet_core.proofs.Keys.{keys_total, key_eq-other}
use Rattle.bom_core.specs.Changes.{passes, row_is}
use Rattle.bom_core.specs.Lines.{removed_all}
use Rattle.sheet_core.proofs.RowLemmas.{get-remove_cases}

module _ {X : Type 0} where
  pub get-insert_old : (m : Table X) (q : List ℕ) (v : X) (k : List ℕ) (x : X) → table.get m q ≡ None
      → table.get m k ≡ Some x → table.get (table.insert m q v) k ≡ Some x
  get-insert_old m q v k x none e =
      table.get-insert keys_total m q v k
      ∙ ap (λ b. cond b (Some v) (table.get m k))
      (key_eq-other k q (λ same. let other : table.get m q ≡ Some x = sym (ap (table.get m) same) ∙ e in cc)) ∙ e

  pub get-remove_other : (m : Table X) (q k : List ℕ) (x : X) → k ≢ q → table.get m k ≡ Some x
      → table.get (table.remove m q) k ≡ Some x
  get-remove_other m q k x other e =
      table.get-remove keys_total m q k ∙ ap (λ b. cond b None (table.get m k)) (key_eq-other k q other) ∙ e

  -- a row that is there after all of those numbers went was there, and its number is none of them
  pub get-removed_all : (ns : List ℕ) (m : Table X) (k : List ℕ) (x : X) → table.get (removed_all ns m) k ≡ Some x
      → table.get m k ≡ Some x
  get-removed_all [] m k x e = e
  get-removed_all (n ∷ ns) m k x e =
      (get-remove_cases m (n ∷ []) k x (get-removed_all ns (table.remove m (n ∷ [])) k x e)).1

  -- where a row of that number passes, there is one
  pub row_is-found : (test : X → Bool) (m : Table X) (n : ℕ) → row_is test m n ≡ true
      → (x : X) × (table.get m (n ∷ []) ≡ Some x) × (test x ≡ true)
  row_is-found test m n e =
      elim (table.get m (n ∷ [])) as (λ o.
      table.get m (n ∷ []) ≡ o → passes test o ≡ true → (x : X) × (table.get m (n ∷ []) ≡ Some x) × (test x ≡ true)) [
        | None ↦ λ p h. cc
        | Some x ↦ λ p h. (x, p, h)
      ] refl e
