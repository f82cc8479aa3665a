-- What is seen of rows, one of which was pushed.
use Rattle.std.proofs.Common.{◌≡◌, ◌∙◌, ◌∷◌, ◌++◌, ◌+◌, ◌<◌, ℕ, [], List, ap, append_assoc, get_or, length, map, sym, take}
use Rattle.std.proofs.lemmas.List.{map-append, take_more}

-- the rows so far are those of the first few; with one more row pushed they are those of one more
pub seen-pushed : {X R F : Type 0} (see : R → F) (row : X → F) (xs : List X) (i : ℕ) (d : X) (first : List F)
    (rows more : List R) (r : R) → i < length xs → map see rows ≡ first ++ map row (take i xs)
    → see r ≡ row (get_or xs i d) → more ≡ rows ++ r ∷ [] → map see more ≡ first ++ map row (take (i + 1) xs)
seen-pushed see row xs i d first rows more r there so_far same pushed =
    ap (map see) pushed
    ∙ map-append see rows (r ∷ [])
    ∙ ap (λ l. l ++ see r ∷ []) so_far
    ∙ append_assoc first (map row (take i xs)) (see r ∷ [])
    ∙ ap (λ f. first ++ (map row (take i xs) ++ f ∷ [])) same
    ∙ ap (λ l. first ++ l) (sym (map-append row (take i xs) (get_or xs i d ∷ [])))
    ∙ ap (λ l. first ++ map row l) (sym (take_more xs i d there))
