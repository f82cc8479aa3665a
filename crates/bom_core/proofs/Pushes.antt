-- Parts pushed one after another.
use Rattle.std.proofs.Common.{◌≡◌, ◌≤◌, ◌+◌, ◌<◌, ℕ, List, [], ◌∷◌, ◌++◌, length}
use Rattle.std.proofs.Common.{drop, get_or, map, refl, sym, ap, ◌∙◌, Bor}
use Rattle.std.specs.Prelude.{flat_map}
use Rattle.std.proofs.lemmas.List.{at_drop_all, at_drop_more}
use Rattle.bom_core.specs.Search.{push_new, push_all}

pub push_all_append : (seen ps qs : List ℕ) → push_all seen (ps ++ qs) ≡ push_all (push_all seen ps) qs
push_all_append seen [] qs = refl
push_all_append seen (p ∷ ps) qs = push_all_append (push_new seen p) ps qs

module _ {X : Type 0} (rows : List (Bor X)) (i : ℕ) (seen all : List ℕ) where
  -- a loop over rows, each of which adds its list
  module _ (added : X → List ℕ) (left : push_all seen (flat_map added (map (λ x. x.now) (drop i rows))) ≡ all) where
    abbrev adds : List (Bor X) → List ℕ
    adds xs = push_all seen (flat_map added (map (λ x. x.now) xs))

    pub row_added : (d : Bor X) → i < length rows → (new : List ℕ) → new ≡ push_all seen (added (get_or rows i d).now)
        → push_all new (flat_map added (map (λ x. x.now) (drop (i + 1) rows))) ≡ all
    row_added d here new e =
        ap (λ s. push_all s (flat_map added (map (λ x. x.now) (drop (i + 1) rows)))) e
        ∙ sym
        (push_all_append seen (added (get_or rows i d).now) (flat_map added (map (λ x. x.now) (drop (i + 1) rows))))
        ∙ sym (at_drop_more adds rows i d here) ∙ left

    pub rows_added : length rows ≤ i → seen ≡ all
    rows_added end = sym (at_drop_all adds rows i end) ∙ left

  -- a loop over rows, each of which adds what it names
  pub names_added : (name : X → ℕ) → push_all seen (map name (map (λ x. x.now) (drop i rows))) ≡ all → length rows ≤ i
      → seen ≡ all
  names_added name left end =
      sym (at_drop_all (λ (xs : List (Bor X)). push_all seen (map name (map (λ x. x.now) xs))) rows i end) ∙ left
