-- Steps of a loop that adds the rows of one after another to what is there.
use Rattle.std.proofs.Common.{◌≡◌, ◌∙◌, ℕ, ◌+◌, ◌<◌, Bool, true, false, List, [], ◌∷◌, ◌++◌}
use Rattle.std.proofs.Common.{ap, append_assoc, cond, drop, filter, get_or, length, map, sym}
use Rattle.std.proofs.lemmas.List.{drop_more, map-append}
use Rattle.std.specs.List.{flat_map}

-- what is left begins with the next
next : {X : Type 0} (xs : List X) (i : ℕ) (x : X) → i < length xs → x ≡ get_or xs i x
    → drop i xs ≡ x ∷ drop (i + 1) xs
next xs i x lt is = drop_more xs i x lt ∙ ap (λ y. y ∷ drop (i + 1) xs) (sym is)

module _ {X Z Y : Type 0} (f : X → Z) (xs : List X) (i : ℕ) (x : X) (lt : i < length xs) (is : x ≡ get_or xs i x) where
  -- a row is added for the next
  pub row_added : {V : Type 0} (g : V → Y) (row : Z → Y) (new old : List V) (line : V) (all : List Y)
      → new ≡ old ++ line ∷ [] → g line ≡ row (f x) → map g old ++ map row (map f (drop i xs)) ≡ all
      → map g new ++ map row (map f (drop (i + 1) xs)) ≡ all
  row_added g row new old line all told e h =
      let rest = map row (map f (drop (i + 1) xs)) in
      ap (λ l. map g l ++ rest) told
      ∙ ap (λ l. l ++ rest) (map-append g old (line ∷ []))
      ∙ append_assoc (map g old) (g line ∷ []) rest
      ∙ ap (λ y. map g old ++ y ∷ rest) e
      ∙ ap (λ l. map g old ++ map row (map f l)) (sym (next xs i x lt is))
      ∙ h

  -- all rows of the next are added
  pub rows_added : (rows : Z → List Y) (new old all : List Y) → new ≡ old ++ rows (f x)
      → old ++ flat_map rows (map f (drop i xs)) ≡ all → new ++ flat_map rows (map f (drop (i + 1) xs)) ≡ all
  rows_added rows new old all told h =
      let rest = flat_map rows (map f (drop (i + 1) xs)) in
      ap (λ l. l ++ rest) told
      ∙ append_assoc old (rows (f x)) rest
      ∙ ap (λ l. old ++ flat_map rows (map f l)) (sym (next xs i x lt is))
      ∙ h

-- of a list from the index on, rows are added for those alone that are kept
module _ {X V Y : Type 0} (kept : X → Bool) (row : X → Y) (g : V → Y) (xs : List X) (i : ℕ) (x : X)
    (lt : i < length xs) (is : x ≡ get_or xs i x) where
  next_kept : (told : Bool) → told ≡ kept x
      → filter kept (drop i xs) ≡ cond told (x ∷ filter kept (drop (i + 1) xs)) (filter kept (drop (i + 1) xs))
  next_kept told e =
      ap (filter kept) (next xs i x lt is)
      ∙ ap (λ b. cond b (x ∷ filter kept (drop (i + 1) xs)) (filter kept (drop (i + 1) xs))) (sym e)

  -- a row is added for the next, which is kept
  pub kept_added : (new old : List V) (line : V) (all : List Y) → true ≡ kept x → new ≡ old ++ line ∷ []
      → g line ≡ row x → map g old ++ map row (filter kept (drop i xs)) ≡ all
      → map g new ++ map row (filter kept (drop (i + 1) xs)) ≡ all
  kept_added new old line all here told e h =
      let rest = map row (filter kept (drop (i + 1) xs)) in
      ap (λ l. map g l ++ rest) told
      ∙ ap (λ l. l ++ rest) (map-append g old (line ∷ []))
      ∙ append_assoc (map g old) (g line ∷ []) rest
      ∙ ap (λ y. map g old ++ y ∷ rest) e
      ∙ ap (λ l. map g old ++ map row l) (sym (next_kept true here))
      ∙ h

  -- none is for the next, which isn't
  pub kept_skipped : (new old : List V) (all : List Y) → false ≡ kept x → new ≡ old
      → map g old ++ map row (filter kept (drop i xs)) ≡ all
      → map g new ++ map row (filter kept (drop (i + 1) xs)) ≡ all
  kept_skipped new old all left same h =
      ap (λ l. map g l ++ map row (filter kept (drop (i + 1) xs))) same
      ∙ ap (λ l. map g old ++ map row l) (sym (next_kept false left))
      ∙ h
