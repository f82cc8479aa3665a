-- Texts as columns.
use Rattle.std.specs.Prelude.{ℕ, List, Option}
use Rattle.sheet_core.specs.Columns.{◌>>=◌, fitting, text_at}
use Rattle.sheet_core.specs.declared.column.Column.{Column}
use Rattle.word_core.specs.Text.{is_text}

-- a text that may stand in a row
abbrev pub row_text_at : ℕ → List Column → Option (List ℕ)
row_text_at i columns = do
  text ← text_at i columns
  fitting is_text text
