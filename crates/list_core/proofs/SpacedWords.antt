-- Words with a space between two, written one after another.
use Rattle.std.proofs.Common.{◌≡◌, ◌++◌, ◌∷◌, [], ℕ, Bool, List, true, false, refl, ap}
use Rattle.std.specs.Prelude.{codes, if◌then◌else◌}
use Rattle.std.proofs.lemmas.List.{append-nil}
use Rattle.list_core.specs.PartList.{spaced}

-- the words, each after a space, but for the first where no other came before it
abbrev pub spaced_on : Bool → List (List ℕ) → List ℕ
spaced_on later [] = []
spaced_on later (w ∷ ws) = (if later then codes " " else []) ++ (w ++ spaced_on true ws)

pub spaced_whole : (words : List (List ℕ)) → spaced_on false words ≡ spaced words
spaced_whole [] = refl
spaced_whole (w ∷ []) = rw append-nil
spaced_whole (w ∷ v ∷ vs) = ap (λ rest. w ++ (codes " " ++ rest)) (spaced_whole (v ∷ vs))
