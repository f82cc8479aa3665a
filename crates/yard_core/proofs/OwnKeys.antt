-- Tables whose rows stand under their own numbers.
use Rattle.std.proofs.Common.{◌≡◌, ℕ, Bool, true, false, cond, List, [], ◌∷◌, map, Some, None, refl, sym, ap, ◌∙◌}
use Rattle.std.specs.FinMap as table
use Rattle.std.specs.Ordering.{is_eq}
use Rattle.std.proofs.lemmas.Option.{same_Some}
use Rattle.sheet_core.specs.Filled.{StandUnderKeys}
use Rattle.sheet_core.specs.Sheet.{Table}
use Rattle.sheet_core.proofs.Entries.{find_in}
use Rattle.sheet_core.proofs.Keys.{key_eq, key_eq-self, key_eq-true}
use Rattle.sheet_core.proofs.Selects.{AreAbove, Rises, Rises-from}
use Rattle.sheet_core.proofs.Conditions.{is_true}
use Rattle.yard_core.specs.Stock.{keyed}

module _ {X : Type 0} where
  abbrev any : X → Bool
  any x = true

  none_below : (k : List ℕ) (es : List (List ℕ × X)) → AreAbove any k es → find_in k es ≡ None
  none_below k [] a = refl
  none_below k (e ∷ es) a = ap (λ o. cond (is_eq o) (Some e.1) (find_in k es)) a.0 ∙ none_below k es a.1

  -- what is found behind the first entry is found
  found-later : (e : List ℕ × X) (es : List (List ℕ × X)) → AreAbove any e.0 es → (k : List ℕ) (x : X)
      → find_in k es ≡ Some x → find_in k (e ∷ es) ≡ Some x
  found-later e es a k x f =
      elim (key_eq k e.0) as (λ b. key_eq k e.0 ≡ b → cond b (Some e.1) (find_in k es) ≡ Some x) [
        | true ↦
            λ t. let bad : None ≡ Some x =
            sym (none_below e.0 es a) ∙ ap (λ q. find_in q es) (sym (key_eq-true k e.0 t)) ∙ f in
            cc
        | false ↦ λ t. f
      ] refl

  rises : (t : Table X) → Rises any (table.entries t)
  rises t = Rises-from any (table.entries t) (is_true _ (table.entries_sorted t))

  module _ (number : X → ℕ) where
    abbrev own_key : X → List ℕ
    own_key x = number x ∷ []

    keyed-entries : (es : List (List ℕ × X)) → Rises any es
        → ((k : List ℕ) (x : X) → find_in k es ≡ Some x → k ≡ own_key x) → es ≡ keyed number (map (λ e. e.1) es)
    keyed-entries [] r own = refl
    keyed-entries (e ∷ es) r own =
        let here : e.0 ≡ own_key e.1 = own e.0 e.1 (ap (λ b. cond b (Some e.1) (find_in e.0 es)) (key_eq-self e.0)) in
        ap (λ k. (k, e.1) ∷ es) here
        ∙ ap (λ l. (own_key e.1, e.1) ∷ l) (keyed-entries es r.1 (λ k x f. own k x (found-later e es r.0 k x f)))

    -- rows under their own numbers are the entries
    pub own-keyed : (t : Table X) → StandUnderKeys own_key t → table.entries t ≡ keyed number (table.values t)
    own-keyed t own = keyed-entries (table.entries t) (rises t) (λ k x f. own k x (table.get-entries t k ∙ f))

    found-own : (xs : List X) (k : List ℕ) (x : X) → find_in k (keyed number xs) ≡ Some x → k ≡ own_key x
    found-own [] k x e = cc
    found-own (y ∷ ys) k x e =
        elim (key_eq k (own_key y))
        as (λ b. key_eq k (own_key y) ≡ b → cond b (Some y) (find_in k (keyed number ys)) ≡ Some x → k ≡ own_key x) [
          | true ↦ λ t h. key_eq-true k (own_key y) t ∙ ap own_key (same_Some y x h)
          | false ↦ λ t h. found-own ys k x h
        ] refl e

    -- and back
    pub keyed-own : (t : Table X) → table.entries t ≡ keyed number (table.values t) → StandUnderKeys own_key t
    keyed-own t own k x e = found-own (table.values t) k x (ap (find_in k) (sym own) ∙ sym (table.get-entries t k) ∙ e)
