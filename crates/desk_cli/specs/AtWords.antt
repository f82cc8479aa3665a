-- What a service is asked, at a port, in the place of a file.
use Rattle.std.specs.Prelude.{ℕ, Bool, Option, option_map}
use Rattle.clap.specs.Words.{Text}
use Rattle.desk_cli.specs.declared.at_words.Asked.{Asked}
use Rattle.desk_cli.specs.declared.at_words.Asked.TheVariants as asked
use Rattle.desk_cli.specs.declared.at_words.AskedLines.{AskedLines}
use Rattle.desk_cli.specs.declared.at_words.AskedList.{AskedList}

-- the lines of the standard input, and how they are run; a report; a table; all tables; a list, its word, and what is said
-- besides; the file at a path, with whether it is read loosely, its kind, its document and its day; that the service stops
pub data Asking : Type 0 where
  lines : AskedLines → Asking
  report : Text → ℕ → Asking
  table : Text → Asking
  dump : Asking
  show : Text → Option Text → AskedList → Asking
  file : Bool → Text → Text → Text → Text → Asking
  stop : Asking

abbrev pub asking_of : Asked → Asking
asking_of (asked.Lines how) = lines how
asking_of (asked.Report name number) = report name.now number
asking_of (asked.Table name) = table name.now
asking_of asked.Dump = dump
asking_of (asked.Show list of words) = show list.now (option_map (λ word. word.now) of) words
asking_of (asked.File loose kind document day path) = file loose kind.now document.now day.now path.now
asking_of asked.Stop = stop
