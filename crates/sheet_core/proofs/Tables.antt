-- Rows of a table after one is put, and the rows of a table as a list.
use Rattle.std.proofs.Common.{◌≡◌, ℕ, Bool, true, false, cond, ◌||◌, List, [], ◌∷◌, map, Some, refl, sym, ap, ◌∙◌}
use Rattle.std.specs.FinMap as table
use Rattle.std.specs.List.{list_any}
use Rattle.sheet_core.specs.Sheet.{key_cmp, Table}
use Rattle.sheet_core.proofs.Keys.{key_eq}

module _ {X : Type 0} where
  same_row : (a b : X) → Some a ≡ Some b → a ≡ b
  same_row a b e = cc

  any-found : (p : X → Bool) (es : List (List ℕ × X)) (k : List ℕ) (x : X) → table.find key_cmp k es ≡ Some x
      → list_any p (map (λ e. e.1) es) ≡ false → p x ≡ false
  any-found p [] k x e none = cc
  any-found p (f ∷ fs) k x e none =
      elim (key_eq k f.0) as (λ b. cond b (Some f.1) (table.find key_cmp k fs) ≡ Some x → p x ≡ false) [
        | true ↦ λ h. ap p (sym (same_row f.1 x h)) ∙ (first (p f.1) (list_any p (map (λ e. e.1) fs)) none).0
        | false ↦ λ h. any-found p fs k x h (first (p f.1) (list_any p (map (λ e. e.1) fs)) none).1
      ] e
    where
      first : (a b : Bool) → (a || b) ≡ false → (a ≡ false) × (b ≡ false)
      first true b e = cc
      first false b e = (refl, e)

  -- a test that no row passes isn't passed by the row of a key
  pub none-passes : (p : X → Bool) (t : Table X) (k : List ℕ) (x : X) → list_any p (table.values t) ≡ false
      → table.get t k ≡ Some x → p x ≡ false
  none-passes p t k x none e = any-found p (table.entries t) k x (sym (table.get-entries t k) ∙ e) none
