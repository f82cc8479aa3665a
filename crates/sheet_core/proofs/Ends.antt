-- An entry put under a key above all others stands last, so that a history in a table grows as a list does.
use Rattle.std.proofs.Common.{◌≡◌, ℕ, List, [], ◌∷◌, ◌++◌, refl, ap, ◌∙◌}
use Rattle.std.specs.declared.cmp.Ordering.TheVariants.{Greater}
use Rattle.std.specs.FinMap.Entries.{put, by_order}
use Rattle.sheet_core.specs.Sheet.{key_cmp}

module _ {X : Type 0} where
  -- the key is above each key of the entries
  abbrev pub IsPast : List ℕ → List (List ℕ × X) → Type 0
  IsPast k [] = Unit {0}
  IsPast k (e ∷ es) = (key_cmp k e.0 ≡ Greater) × IsPast k es

  pub put-last : (k : List ℕ) (v : X) (es : List (List ℕ × X)) → IsPast k es → put key_cmp k v es ≡ es ++ (k, v) ∷ []
  put-last k v [] past = refl
  put-last k v (e ∷ es) past =
      ap (λ o. by_order o ((k, v) ∷ e ∷ es) ((e.0, v) ∷ es) (e ∷ put key_cmp k v es)) past.0
      ∙ ap (λ r. e ∷ r) (put-last k v es past.1)
