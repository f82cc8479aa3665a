-- A kept answer as a row of a file: word, command, answer.
use Rattle.std.specs.Prelude.{ℕ, List, [], ◌∷◌, Option, Some}
use Rattle.sheet_core.specs.declared.column.Column.{Column}
use Rattle.sheet_core.specs.declared.column.Column.TheVariants.{Text}
use Rattle.sheet_core.specs.Columns.{◌>>=◌, has, text_at, fitting}
use Rattle.word_core.specs.declared.answer.Answer.{Answer}
use Rattle.desk_core.specs.AnswerLine.{answer_line, answer_told}
use Rattle.desk_core.specs.Key.{is_key}
use Rattle.desk_core.specs.declared.kept.Kept.{Kept}

abbrev pub kept_columns : Kept → List Column
kept_columns row = Text row.word ∷ Text row.command ∷ Text (answer_line row.answer) ∷ []

-- the key in a column
abbrev pub key_at : ℕ → List Column → Option (List ℕ)
key_at i columns = do
  text ← text_at i columns
  fitting is_key text

-- the answer whose line stands in a column
abbrev pub answer_at : ℕ → List Column → Option Answer
answer_at i columns = do
  text ← text_at i columns
  answer_told text

abbrev pub kept_from : List Column → Option Kept
kept_from columns = do
  whole ← has 3 columns
  word ← key_at 0 columns
  command ← text_at 1 columns
  answer ← answer_at 2 columns
  Some (record { word = word; command = command; answer = answer })
