-- What stands under a key in a table whose rows were changed.
use Rattle.std.proofs.Common.{◌≡◌, ℕ, true, false, cond, List, [], ◌∷◌, map, Option, Some, None, refl, sym, ap, ◌∙◌}
use Rattle.std.specs.Prelude.{option_map}
use Rattle.std.specs.FinMap as table
use Rattle.sheet_core.specs.Rows.{StandRight}
use Rattle.sheet_core.specs.Sheet.{Table}
use Rattle.sheet_core.proofs.Entries.{find_in}
use Rattle.sheet_core.proofs.Keys.{key_eq, keys_total}
use Rattle.sheet_core.specs.TableRows.{mapped}

module _ {X : Type 0} (change : X → X) where
  abbrev changed_entries : List (List ℕ × X) → List (List ℕ × X)
  changed_entries es = map (λ (e : List ℕ × X). (e.0, change e.1)) es

  find-changed : (k : List ℕ) (es : List (List ℕ × X))
      → find_in k (changed_entries es) ≡ option_map change (find_in k es)
  find-changed k [] = refl
  find-changed k (e ∷ es) =
      elim (key_eq k e.0) as (λ b. cond b (Some (change e.1)) (find_in k (changed_entries es))
      ≡ option_map change (cond b (Some e.1) (find_in k es))) [
        | true ↦ refl
        | false ↦ find-changed k es
      ]

  -- the row under a key, changed
  pub get-mapped : (t : Table X) (k : List ℕ) → table.get (mapped change t) k ≡ option_map change (table.get t k)
  get-mapped t k =
      table.get-from_entries keys_total (changed_entries (table.entries t)) k
      ∙ find-changed k (table.entries t)
      ∙ ap (option_map change) (sym (table.get-entries t k))

  -- a row that is there was another before
  pub row-mapped : (t : Table X) (k : List ℕ) (x : X) → table.get (mapped change t) k ≡ Some x
      → (y : X) × (table.get t k ≡ Some y) × (x ≡ change y)
  row-mapped t k x e = go (table.get t k) refl (sym (get-mapped t k) ∙ e)
    where
      go : (o : Option X) → table.get t k ≡ o → option_map change o ≡ Some x
          → (y : X) × (table.get t k ≡ Some y) × (x ≡ change y)
      go None f h = cc
      go (Some y) f h = (y, f, (let same : change y ≡ x = cc in sym same))

  -- rows under their own numbers, which stay as they are
  pub right-mapped : (number : X → ℕ) → ((x : X) → number (change x) ≡ number x) → (next : ℕ) (t : Table X)
      → StandRight number next t → StandRight number next (mapped change t)
  right-mapped number same next t right k x e =
      let was = row-mapped t k x e in
      let r = right k was.0 was.1 in
      let is : number x ≡ number was.0 = ap number was.2 ∙ same was.0 in
      record { own = r.own ∙ ap (λ m. m ∷ []) (sym is); some = rw is r.some; drawn = rw is r.drawn }
