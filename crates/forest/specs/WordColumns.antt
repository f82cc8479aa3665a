-- Batches, serials, statuses and days as columns.
use Rattle.std.specs.Prelude.{ℕ, List, Option, Some}
use Rattle.std.specs.Str.{bytes_eq}
use Rattle.sheet_core.specs.Columns.{◌>>=◌, must, fitting_or_none, number_at, text_at, text_or_none_at}
use Rattle.sheet_core.specs.declared.column.Column.{Column}
use Rattle.word_core.specs.Day.{CivilDay, day_of, day_text}
use Rattle.word_core.specs.Serial.{is_serial}
use Rattle.word_core.specs.Status.{status_of}
use Rattle.word_core.specs.Text.{is_text}
use Rattle.word_core.specs.declared.status.Status.{Status}

abbrev pub row_text_or_none_at : ℕ → List Column → Option (Option (List ℕ))
row_text_or_none_at i columns = do
  text ← text_or_none_at i columns
  fitting_or_none is_text text

abbrev pub serial_or_none_at : ℕ → List Column → Option (Option (List ℕ))
serial_or_none_at i columns = do
  text ← text_or_none_at i columns
  fitting_or_none is_serial text

abbrev pub status_at : ℕ → List Column → Option Status
status_at i columns = do
  code ← number_at i columns
  status_of code

-- the day of a text that is as days are written
abbrev pub day_as_written : List ℕ → Option CivilDay
day_as_written text = do
  day ← day_of text
  same ← must (bytes_eq (day_text day) text)
  Some day

abbrev pub day_at : ℕ → List Column → Option CivilDay
day_at i columns = do
  text ← text_at i columns
  day_as_written text
