-- The row that a report is of.
use Rattle.std.specs.Prelude.{◌≡◌, codes, ℕ, List, Option, Some, None, IsSome, Result, Ok, Err}
use Rattle.std.specs.Borrow.{Bor}
use Rattle.desk_core.specs.Machine.{State}
use Rattle.report_core.specs.declared.name.ReportName.{ReportName}
use Rattle.desk_wire.specs.Reading.{table_of}
use Rattle.desk_wire.specs.declared.fault.What.{What}
use Rattle.desk_wire.specs.declared.fault.What.TheVariants.{NoName, Ambiguous}
use Rattle.list_words.specs.WordRows.{row_at}
use Rattle.desk_cli.specs.declared.subject.NoRow.{NoRow}
use Rattle.desk_cli.specs.declared.subject.NoRow.TheVariants.{Wrong, Memory, Closed}
use Rattle.desk_cli.specs.declared.task.ReportOf.{ReportOf}
use Rattle.desk_cli.specs.declared.task.ReportOf.TheVariants.{Number, Word}

-- the word that says its row, if a word does
abbrev pub said_word : ReportOf → Option (Bor (List ℕ))
said_word (Number number) = None
said_word (Word word) = Some word

-- a number is the row's own; a word is looked up as the names of this state are, in the table of the report
abbrev pub row_of_report : ReportName → ReportOf → State → Result ℕ What
row_of_report name (Number number) s = Ok number
row_of_report name (Word word) s = row_at (table_of name) word.now s

-- why there is none, of a desk that this fault has closed, if one has
abbrev pub TellsNoRow : {F A : Type 0} → Option F → Result A What → NoRow → Type 0
TellsNoRow failed row (Wrong what) = row ≡ Err what
TellsNoRow failed row Memory = Unit {0}
TellsNoRow failed row Closed = IsSome failed

-- what is told of the word
abbrev pub no_row_text : What → List ℕ
no_row_text (NoName field) = codes "no row is called so"
no_row_text (Ambiguous field) = codes "several rows are called so"
no_row_text _ = codes "no row can be called so"
