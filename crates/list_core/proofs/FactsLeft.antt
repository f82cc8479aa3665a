-- The facts of a form's fields, to their end.
use Rattle.std.proofs.Common.{◌≡◌, ◌∙◌, ◌++◌, ◌∷◌, [], ℕ, List, ap, inl, inr, refl, sym}
use Rattle.std.specs.Prelude.{◌⊎◌}
use Rattle.std.proofs.lemmas.List.{append-nil}
use Rattle.word_core.specs.Forms.{Blanks}
use Rattle.word_core.specs.declared.field.Field.{Field}
use Rattle.desk_core.specs.Machine.{State}
use Rattle.list_core.specs.Facts.{facts_from}

none_left : (s : State) (blanks : Blanks) (fields : List Field) → (blanks ≡ []) ⊎ (fields ≡ [])
    → facts_from s blanks fields ≡ []
none_left s [] fields e = refl
none_left s (b ∷ bs) [] e = refl
none_left s (b ∷ bs) (x ∷ xs) (inl e) = cc e
none_left s (b ∷ bs) (x ∷ xs) (inr e) = cc e

-- facts to which those of what is left are to be added, where nothing is left
pub all_told : (s : State) (blanks : Blanks) (fields : List Field) (facts all : List (List ℕ))
    → (blanks ≡ []) ⊎ (fields ≡ []) → all ≡ facts ++ facts_from s blanks fields → facts ≡ all
all_told s blanks fields facts all e told =
    sym (told ∙ ap (λ more. facts ++ more) (none_left s blanks fields e) ∙ append-nil facts)
