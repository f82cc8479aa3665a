-- Texts with a comma between two, written one after another.
use Rattle.std.proofs.Common.{◌≡◌, ◌++◌, ◌∷◌, [], ℕ, Bool, List, true, false, refl, ap}
use Rattle.std.specs.Prelude.{codes, if◌then◌else◌}
use Rattle.std.proofs.lemmas.List.{append-nil}
use Rattle.list_core.specs.Facts.{commas}

-- the texts, each after a comma, but for the first where no other came before it
abbrev pub commas_on : Bool → List (List ℕ) → List ℕ
commas_on later [] = []
commas_on later (w ∷ ws) = (if later then codes ", " else []) ++ (w ++ commas_on true ws)

pub commas_whole : (texts : List (List ℕ)) → commas_on false texts ≡ commas texts
commas_whole [] = refl
commas_whole (w ∷ []) = rw append-nil
commas_whole (w ∷ v ∷ vs) = ap (λ rest. w ++ (codes ", " ++ rest)) (commas_whole (v ∷ vs))
