-- The report of an import, to its end.
use Rattle.std.proofs.Common.{◌≡◌, inl, inr, ℕ, List, [], ◌∷◌, ◌++◌, refl, ap, sym, ◌∙◌}
use Rattle.std.specs.Prelude.{Result, ◌⊎◌}
use Rattle.std.proofs.lemmas.List.{append-nil}
use Rattle.word_core.specs.declared.answer.Answer.{Answer}
use Rattle.word_core.specs.declared.refusal.Refusal.{Refusal}
use Rattle.desk_wire.specs.ImportReports.{import_text}

abbrev pub Outcome : Type 0
Outcome = Result Answer Refusal

none-left : (ns : List ℕ) (os : List Outcome) → (ns ≡ []) ⊎ (os ≡ []) → import_text ns os ≡ []
none-left [] os e = refl
none-left (n ∷ ns) [] e = refl
none-left (n ∷ ns) (o ∷ os) (inl e) = cc e
none-left (n ∷ ns) (o ∷ os) (inr e) = cc e

-- a text to which the lines that are left are to be added, where none are
pub all-told : (ns : List ℕ) (os : List Outcome) (all text : List ℕ) → (ns ≡ []) ⊎ (os ≡ [])
    → all ≡ text ++ import_text ns os → text ≡ all
all-told ns os all text e h = sym (h ∙ ap (λ more. text ++ more) (none-left ns os e) ∙ append-nil text)
