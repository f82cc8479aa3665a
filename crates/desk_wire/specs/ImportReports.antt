-- The report of an import.
use Rattle.std.specs.Prelude.{ℕ, ◌++◌, ◌∷◌, List, [], decimal, Result, Ok, Err}
use Rattle.word_core.specs.declared.answer.Answer.{Answer}
use Rattle.word_core.specs.declared.refusal.Refusal.{Refusal}
use Rattle.desk_wire.specs.Writing.{answer_text, refused_text}

-- the answer line of a row, with its LF
abbrev pub outcome_text : Result Answer Refusal → List ℕ
outcome_text (Ok answer) = answer_text answer
outcome_text (Err refusal) = refused_text refusal

-- the row's number, a tab, and its answer line
abbrev pub report_line : ℕ → List ℕ → List ℕ
report_line number line = decimal number ++ 9 ∷ line

-- the lines of the rows of these numbers, as far as each has an outcome
abbrev pub import_text : List ℕ → List (Result Answer Refusal) → List ℕ
import_text [] outcomes = []
import_text (n ∷ ns) [] = []
import_text (n ∷ ns) (o ∷ os) = report_line n (outcome_text o) ++ import_text ns os
