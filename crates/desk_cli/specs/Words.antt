-- What the words ask for, of which the first is the program's name.
use Rattle.std.specs.Prelude.{◌≡◌, ◌≢◌, ◌⊎◌, ◌||◌, ◌&&◌, ◌==◌, not, nat_lt, nat_le, ℕ, Bool, true, false, List, [], ◌∷◌}
use Rattle.std.specs.Prelude.{◌++◌, codes, Option, Some, None, option_map, option_and_then, Result, IfOk, if◌then◌else◌}
use Rattle.std.specs.Prelude.{is_none, is_some, length}
use Rattle.std.specs.Borrow.{Bor}
use Rattle.std.specs.Str.{bytes_eq}
use Rattle.clap.specs.Words.{App, Rule, Row, Text, new_app, new_rule, with_rule, with_subcommand, fault_of, Kinds}
use Rattle.clap.specs.Words.{IsAmong, FailsBy, kind_of, first_of, found_of, rows_of, subcommand_of, subcommand_rows_of}
use Rattle.clap.specs.Simple.{on_top}
use Rattle.clap.specs.Walk.{texts}
use Rattle.clap.specs.declared.builder.action.ArgAction.TheVariants.{Append, Set, SetTrue}
use Rattle.clap.specs.declared.builder.value_parser.ValueParser.TheVariants.{Names}
use Rattle.clap.specs.declared.error.Error.{Error}
use Rattle.clap.specs.declared.error.kind.ErrorKind.TheVariants.{DisplayHelp, DisplayVersion}
use Rattle.clap.specs.declared.error.kind.ErrorKind.TheVariants.{OutOfMemory, ValueValidation}
use Rattle.clap.specs.declared.error.kind.ErrorKind.{ErrorKind}
use Rattle.clap.specs.declared.parser.matches.ArgMatches.{ArgMatches}
use Rattle.word_core.specs.Day.{CivilDay, day_of}
use Rattle.word_core.specs.Forms.{Form}
use Rattle.report_core.specs.Names.{report_named}
use Rattle.report_core.specs.declared.name.ReportName.{ReportName}
use Rattle.list_core.specs.HistoryList.{Span}
use Rattle.table_store.specs.declared.name.TableName.{TableName}
use Rattle.table_store.specs.declared.name.TableName.TheVariants as table
use Rattle.desk_wire.specs.Kinds.{import_kind_named}
use Rattle.desk_wire.specs.Numbers.{number_in}
use Rattle.desk_wire.specs.Sheets as sheets
use Rattle.desk_wire.specs.SheetViews.{shown_sheet}
use Rattle.desk_wire.specs.declared.kind.FileReading.{FileReading}
use Rattle.desk_wire.specs.declared.kind.FileReading.TheVariants.{Strict, Loose, Unchanged}
use Rattle.desk_wire.specs.declared.kind.ImportKind.{ImportKind}
use Rattle.list_words.specs.Lists.{Listed, history, list_by, listed_of, named}
use Rattle.desk_wire.specs.Documents.{document_named}
use Rattle.table_store.specs.Named.{table_named}
use Rattle.desk_cli.specs.AtWords as ats
use Rattle.desk_cli.specs.AtWords.{Asking, asking_of}
use Rattle.desk_cli.specs.SheetWords.{form_in, sheet_in}
use Rattle.desk_cli.specs.declared.task.LookAt.{LookAt}
use Rattle.desk_cli.specs.declared.task.LookAt.TheVariants as look
use Rattle.desk_cli.specs.declared.task.ReportOf.{ReportOf}
use Rattle.desk_cli.specs.declared.task.ReportOf.TheVariants.{Number, Word}
use Rattle.desk_cli.specs.declared.task.RowsFile.{RowsFile}
use Rattle.desk_cli.specs.declared.task.RunWords.{RunWords}
use Rattle.desk_cli.specs.declared.task.ServeWords.{ServeWords}
use Rattle.desk_cli.specs.declared.task.SheetFile.{SheetFile}
use Rattle.desk_cli.specs.declared.task.Task.{Task}
use Rattle.desk_cli.specs.declared.task.Task.TheVariants.{Run, Look, Migrate, Import, Sheet, Lines, Serve, Guide, At}
use Rattle.desk_cli.specs.declared.task.Task.TheVariants.{Help, Wrong, Unreadable, Memory}

-- no more words, or `run`
abbrev pub asks_run : List (List ℕ) → Bool
asks_run [] = false
asks_run (name ∷ []) = true
asks_run (name ∷ word ∷ []) = bytes_eq word (codes "run")
asks_run (name ∷ word ∷ more ∷ words) = false

-- one word more, which is a flag of help
abbrev pub asks_help : List (List ℕ) → Bool
asks_help [] = false
asks_help (name ∷ []) = false
asks_help (name ∷ word ∷ []) = bytes_eq word (codes "--help") || bytes_eq word (codes "-h")
asks_help (name ∷ word ∷ more ∷ words) = false

-- one word more, which is a flag of the version
abbrev pub asks_version : List (List ℕ) → Bool
asks_version [] = false
asks_version (name ∷ []) = false
asks_version (name ∷ word ∷ []) = bytes_eq word (codes "--version") || bytes_eq word (codes "-V")
asks_version (name ∷ word ∷ more ∷ words) = false

-- `run --db=FILE`
abbrev pub run_on : Text → Text → List Text
run_on name file = name ∷ codes "run" ∷ (codes "--db=" ++ file) ∷ []

-- `run --db FILE`
abbrev pub run_with : Text → Text → List Text
run_with name file = name ∷ codes "run" ∷ codes "--db" ∷ file ∷ []

-- the word isn't empty and doesn't begin with a hyphen, as options do
abbrev pub is_path : Text → Bool
is_path [] = false
is_path (first ∷ rest) = not (first == 45)

-- the names that `report`, `export`, `show`, `import` and `lines` take
abbrev pub report_names : List Text
report_names =
    codes "ledger" ∷ codes "stock" ∷ codes "where_used" ∷ codes "history" ∷ codes "content" ∷ codes "shortage" ∷ []

abbrev pub table_names : List Text
table_names =
    codes "meta" ∷ codes "categories" ∷ codes "locations" ∷ codes "parts" ∷ codes "lines" ∷ codes "substitutes"
    ∷ codes "items" ∷ codes "history" ∷ codes "orders" ∷ codes "order_lines" ∷ codes "builds" ∷ codes "allocations"
    ∷ codes "kept" ∷ codes "spent" ∷ []

abbrev pub list_names : List Text
list_names =
    codes "stock" ∷ codes "at" ∷ codes "part" ∷ codes "item" ∷ codes "orders" ∷ codes "builds" ∷ codes "find"
    ∷ codes "shortages" ∷ codes "trace-forward" ∷ codes "trace-back" ∷ codes "count-sheet" ∷ codes "receipt-sheet"
    ∷ codes "history" ∷ codes "low" ∷ []

-- receipts, counts, and each command but those two's
abbrev pub kind_names : List Text
kind_names =
    codes "receipts" ∷ codes "counts" ∷ codes "add_category" ∷ codes "add_location" ∷ codes "add_part" ∷ codes "retire_part"
    ∷ codes "add_line" ∷ codes "drop_line" ∷ codes "add_substitute" ∷ codes "drop_substitute" ∷ codes "found" ∷ codes "add"
    ∷ codes "remove" ∷ codes "transfer" ∷ codes "split" ∷ codes "merge" ∷ codes "serialise" ∷ codes "set_status"
    ∷ codes "install" ∷ codes "uninstall" ∷ codes "disassemble" ∷ codes "reinstate" ∷ codes "order" ∷ codes "order_line"
    ∷ codes "issue_order" ∷ codes "allocate_sale" ∷ codes "ship" ∷ codes "return_item" ∷ codes "close_order" ∷ codes "cancel_order"
    ∷ codes "build" ∷ codes "issue_build" ∷ codes "hold_build" ∷ codes "cancel_build" ∷ codes "outputs" ∷ codes "complete_output"
    ∷ codes "cancel_output" ∷ codes "scrap_output" ∷ codes "allocate_build" ∷ codes "auto_allocate" ∷ codes "release" ∷ codes "complete_build"
    ∷ codes "consume" ∷ []

abbrev pub topic_names : List Text
topic_names =
    codes "help" ∷ codes "commands" ∷ codes "add_category" ∷ codes "add_location" ∷ codes "add_part"
    ∷ codes "retire_part" ∷ codes "add_line" ∷ codes "drop_line" ∷ codes "add_substitute" ∷ codes "drop_substitute"
    ∷ codes "found" ∷ codes "add" ∷ codes "remove" ∷ codes "count" ∷ codes "transfer" ∷ codes "split"
    ∷ codes "merge" ∷ codes "serialise" ∷ codes "set_status" ∷ codes "install" ∷ codes "uninstall"
    ∷ codes "disassemble" ∷ codes "reinstate" ∷ codes "order" ∷ codes "order_line" ∷ codes "issue_order"
    ∷ codes "receive" ∷ codes "allocate_sale" ∷ codes "ship" ∷ codes "return_item" ∷ codes "close_order"
    ∷ codes "cancel_order" ∷ codes "build" ∷ codes "issue_build" ∷ codes "hold_build" ∷ codes "cancel_build"
    ∷ codes "outputs" ∷ codes "complete_output" ∷ codes "cancel_output" ∷ codes "scrap_output"
    ∷ codes "allocate_build" ∷ codes "auto_allocate" ∷ codes "complete_build" ∷ codes "consume" ∷ codes "release"
    ∷ codes "flags" ∷ codes "refusals" ∷ codes "KeyTaken" ∷ codes "NoSuch" ∷ codes "BadNumber" ∷ codes "NameTaken"
    ∷ codes "WrongFlag" ∷ codes "Retired" ∷ codes "WrongState" ∷ codes "Mismatch" ∷ codes "OpenOutputs"
    ∷ codes "InUse" ∷ codes "Cycle" ∷ codes "SelfInside" ∷ codes "Unfit" ∷ codes "NotLoose" ∷ codes "Serialised"
    ∷ codes "NotSerialised" ∷ codes "HasContent" ∷ codes "Unavailable" ∷ codes "Short" ∷ codes "Allocated"
    ∷ codes "OverNeed" ∷ codes "SerialCount" ∷ codes "SerialTaken" ∷ codes "TooDeep" ∷ codes "TooLarge"
    ∷ codes "Full" ∷ codes "faults" ∷ codes "TooLong" ∷ codes "NotJson" ∷ codes "NotObject" ∷ codes "NoField"
    ∷ codes "WrongType" ∷ codes "UnknownCommand" ∷ codes "UnknownField" ∷ codes "BadKey" ∷ codes "BadDay"
    ∷ codes "BadText" ∷ codes "BadSerials" ∷ codes "BadWord" ∷ codes "NoName" ∷ codes "Ambiguous" ∷ codes "Csv"
    ∷ codes "Header" ∷ codes "Changed" ∷ codes "mistakes" ∷ []

-- a reference to these texts, wherever they lie
pub record Listing (names : List Text) : Type 0 where
  pub at : Bor (List (Bor Text))
  pub are : texts at.now ≡ names

pub record Places : Type 0 where
  pub reports : Listing report_names
  pub tables : Listing table_names
  pub lists : Listing list_names
  pub kinds : Listing kind_names
  pub line_kinds : Listing kind_names
  pub topics : Listing topic_names

-- `--db FILE`
abbrev pub file_rule : Rule
file_rule = record (new_rule (codes "db")) { long = Some (codes "db"); value_names = 1; action = Some Set }

-- a flag, as `--names`
abbrev pub flag_rule : Text → Rule
flag_rule id = record (new_rule id) { long = Some id; action = Some SetTrue }

abbrev pub names_rule : Rule
names_rule = flag_rule (codes "names")

abbrev pub journal_rule : Rule
journal_rule = flag_rule (codes "journal")

-- a word that has to be there
abbrev pub word_rule : Text → Rule
word_rule id = record (new_rule id) { value_names = 1; required = true; action = Some Set }

-- an option that has to be there
abbrev pub option_rule : Text → Rule
option_rule id = record (word_rule id) { long = Some id }

-- an option that may be left out
abbrev pub optional_rule : Text → Rule
optional_rule id = record (new_rule id) { long = Some id; value_names = 1; action = Some Set }

-- an option that may be given several times
abbrev pub repeated_rule : Text → Rule
repeated_rule id = record (new_rule id) { long = Some id; value_names = 1; action = Some Append }

-- a word that may be left out
abbrev pub optional_word_rule : Text → Rule
optional_word_rule id = record (new_rule id) { value_names = 1; action = Some Set }

abbrev pub needed : Rule → Rule
needed rule = record rule { required = true }

abbrev pub among : Bor (List (Bor Text)) → Rule → Rule
among names rule = record rule { parser = Some (Names names) }

-- where the books are: in a file, or at a port, where a token may be shown
abbrev pub with_place : App → App
with_place app =
    with_rule (with_rule (with_rule app file_rule) (optional_rule (codes "at"))) (optional_rule (codes "token"))

abbrev pub run_line : App
run_line =
    with_rule
    (with_rule (with_rule (with_rule (with_rule (with_place (new_app (codes "run"))) names_rule) journal_rule)
    (flag_rule (codes "stop"))) (flag_rule (codes "check"))) (flag_rule (codes "explain"))

-- NAME, of the names that are listed there
abbrev pub report_rule : Listing report_names → Rule
report_rule names = among names.at (word_rule (codes "name"))

abbrev pub report_line : Listing report_names → App
report_line names =
    with_rule
    (with_rule (with_rule (with_rule (with_place (new_app (codes "report"))) names_rule) (flag_rule (codes "csv")))
    (report_rule names)) (word_rule (codes "number"))

abbrev pub export_line : Listing table_names → App
export_line names =
    with_rule (with_place (new_app (codes "export"))) (among names.at (word_rule (codes "table")))

abbrev pub dump_line : App
dump_line = with_place (new_app (codes "dump"))

-- LIST, of the names that are listed there
abbrev pub list_rule : Listing list_names → Rule
list_rule names = among names.at (word_rule (codes "list"))

abbrev pub show_line : Listing list_names → App
show_line names =
    with_rule
    (with_rule (with_rule (with_rule (with_rule (with_rule (with_rule (with_rule (with_place (new_app (codes "show")))
    (flag_rule (codes "csv"))) (flag_rule (codes "open"))) (optional_rule (codes "low"))) (optional_rule (codes "levels")))
    (optional_rule (codes "from"))) (optional_rule (codes "to"))) (list_rule names)) (optional_word_rule (codes "of"))

abbrev pub migrate_line : App
migrate_line = with_rule (new_app (codes "migrate")) (needed file_rule)

-- `--kind KIND`, of the names that are listed there
abbrev pub kind_rule : Listing kind_names → Rule
kind_rule names = among names.at (option_rule (codes "kind"))

abbrev pub import_line : Listing kind_names → App
import_line names =
    with_rule
    (with_rule (with_rule (with_rule (with_rule (with_rule (with_rule (with_rule (with_rule (with_rule (with_rule
    (with_place (new_app (codes "import"))) names_rule) (flag_rule (codes "loose"))) (flag_rule (codes "unchanged")))
    (flag_rule (codes "explain")))
    (kind_rule names)) (option_rule (codes "document"))) (option_rule (codes "day"))) (repeated_rule (codes "set")))
    (repeated_rule (codes "column"))) (flag_rule (codes "stop"))) (word_rule (codes "path"))

abbrev pub lines_line : Listing kind_names → App
lines_line names =
    with_rule
    (with_rule (with_rule (with_rule (with_rule (with_rule (new_app (codes "lines")) (kind_rule names))
    (option_rule (codes "document"))) (option_rule (codes "day"))) (repeated_rule (codes "set")))
    (repeated_rule (codes "column"))) (word_rule (codes "path"))

abbrev pub serve_line : App
serve_line =
    with_rule
    (with_rule (with_rule (with_rule (with_rule (with_rule (with_rule (new_app (codes "serve")) file_rule) names_rule)
    journal_rule) (flag_rule (codes "page"))) (option_rule (codes "port"))) (optional_rule (codes "count")))
    (optional_rule (codes "token"))

abbrev pub stop_line : App
stop_line =
    with_rule (with_rule (new_app (codes "stop")) (option_rule (codes "at"))) (optional_rule (codes "token"))

-- TOPIC, which may be left out, of the names that are listed there
abbrev pub topic_rule : Listing topic_names → Rule
topic_rule names = among names.at (optional_word_rule (codes "topic"))

abbrev pub help_line : Listing topic_names → App
help_line names = with_rule (new_app (codes "help")) (topic_rule names)

abbrev pub top_line : App
top_line =
    on_top (λ shape. record shape { disable_help_subcommand = true; has_version = true }) (new_app (codes "invdesk"))

-- the program's command line, as `clap` sees it: it has a version, and eleven subcommands
abbrev pub command_line : Places → App
command_line places =
    with_subcommand (with_subcommand (with_subcommand (with_subcommand (with_subcommand (with_subcommand (with_subcommand
    (with_subcommand (with_subcommand (with_subcommand (with_subcommand top_line run_line.top)
    (report_line places.reports).top) (export_line places.tables).top) dump_line.top) (show_line places.lists).top)
    migrate_line.top) (import_line places.kinds).top) (lines_line places.line_kinds).top) serve_line.top) stop_line.top)
    (help_line places.topics).top

abbrev pub IsReportRule : Rule → Type 0
IsReportRule rule = (names : Listing report_names) × (rule ≡ report_rule names)

abbrev pub IsReportLine : App → Type 0
IsReportLine app = (names : Listing report_names) × (app ≡ report_line names)

abbrev pub IsExportLine : App → Type 0
IsExportLine app = (names : Listing table_names) × (app ≡ export_line names)

abbrev pub IsListRule : Rule → Type 0
IsListRule rule = (names : Listing list_names) × (rule ≡ list_rule names)

abbrev pub IsShowLine : App → Type 0
IsShowLine app = (names : Listing list_names) × (app ≡ show_line names)

abbrev pub IsKindRule : Rule → Type 0
IsKindRule rule = (names : Listing kind_names) × (rule ≡ kind_rule names)

abbrev pub IsImportLine : App → Type 0
IsImportLine app = (names : Listing kind_names) × (app ≡ import_line names)

abbrev pub IsLinesLine : App → Type 0
IsLinesLine app = (names : Listing kind_names) × (app ≡ lines_line names)

abbrev pub IsTopicRule : Rule → Type 0
IsTopicRule rule = (names : Listing topic_names) × (rule ≡ topic_rule names)

abbrev pub IsHelpLine : App → Type 0
IsHelpLine app = (names : Listing topic_names) × (app ≡ help_line names)

abbrev pub IsCommandLine : App → Type 0
IsCommandLine app = (places : Places) × (app ≡ command_line places)

-- what `clap` finds wrong, or finds that help or the version is asked for
unfoldable pub faults : Places → List Text → Kinds
faults places words = fault_of (command_line places) words

-- a number from 1 to so many
abbrev pub up_to : ℕ → ℕ → Option ℕ
up_to most number = if nat_lt 0 number && nat_le number most then Some number else None

abbrev pub number_up_to : ℕ → Text → Option ℕ
number_up_to most text = option_and_then (up_to most) (number_in text)

-- what a report is of: the row of a number, or, where rows may be named, what a word says
pub data Subject : Type 0 where
  numbered : ℕ → Subject
  worded : Text → Subject

abbrev pub subject_of : ReportOf → Subject
subject_of (Number number) = numbered number
subject_of (Word word) = worded word.now

-- the rows of a file of receipts or counts: what they are, the document and the day, where the file lies, whether rows may be
-- named, how the file is read, and whether a person is told why a row isn't done
pub record RowsImport : Type 0 where
  pub kind : ImportKind
  pub document : Text
  pub day : CivilDay
  pub path : Text
  pub names : Bool
  pub reading : FileReading
  pub explain : Bool

-- the lines that a file of a command is: what is told beside it, where it lies, whether it ends at the first line that is
-- refused or faulty, and whether a person is told why a line isn't done
pub record SheetImport : Type 0 where
  pub told : sheets.Sheet
  pub path : Text
  pub stop : Bool
  pub explain : Bool

-- a serving: so many connections to a port, or any number, with the file of a token if one is named; whether rows may be
-- named, whether the page is served, and whether requests get keys
pub record Serving : Type 0 where
  pub port : ℕ
  pub count : Option ℕ
  pub token : Option Text
  pub names : Bool
  pub page : Bool
  pub journal : Bool

-- a task of a desk: a run, with the file if one is named; a report of a row; a table; all tables; a list; the list of what has
-- less free than the file at a path says; that a file is brought along; the rows of a file; the lines that a file of a
-- command is, or that these be printed, which needs no desk; a serving, with the file if one is named; help on a topic, which
-- needs none either. At last, what a service at a port is asked, with the file of a token if one is named
pub data DeskTask : Type 0 where
  run : Option Text → RunWords → DeskTask
  report : Text → ReportName → Subject → DeskTask
  export : Text → TableName → DeskTask
  dump : Text → DeskTask
  show : Text → Listed → Bool → DeskTask
  low_list : Text → Text → Bool → DeskTask
  migrate : Text → DeskTask
  import : Text → RowsImport → DeskTask
  sheet : Text → SheetImport → DeskTask
  lines : sheets.Sheet → Text → DeskTask
  serve : Option Text → Serving → DeskTask
  guide : Text → DeskTask
  at : ℕ → Option Text → Asking → DeskTask

abbrev pub export_with : Option Text → Option TableName → Option DeskTask
export_with None table = None
export_with (Some file) None = None
export_with (Some file) (Some table) = Some (export file table)

-- an amount, or none; none at all where what is said is no number
abbrev pub low_in : Option Text → Option (Option ℕ)
low_in None = Some None
low_in (Some text) = option_map (λ amount. Some amount) (number_in text)

-- the text of a day, or none; none at all where what is said is no day
abbrev pub day_in : Option Text → Option (Option Text)
day_in None = Some None
day_in (Some text) = if is_some (day_of text) then Some (Some text) else None

-- the days from the one to the other, where they are said
abbrev pub days_in : Option Text → Option Text → Option Span
days_in first last = option_and_then (λ f. option_map (λ l. record { first = f; last = l }) (day_in last)) (day_in first)

-- with the history go a word, or none, and days, and nothing else
abbrev pub history_by : Option Text → Option ℕ → Bool → Option Span → Option Listed
history_by of low only_open days = if is_none low && not only_open then option_map (history of) days else None

-- the list of that name, by all that was given with it: days go with the history alone
abbrev pub listed_by : Text → Option Text → Option ℕ → Bool → Option Text → Option Text → Option Listed
listed_by name of low only_open first last =
    if bytes_eq name (codes "history") then history_by of low only_open (days_in first last)
    else if is_none first && is_none last then list_by name of low only_open
    else None

-- a flag that was given has the value `true`
abbrev pub is_given : Option Text → Bool
is_given None = false
is_given (Some text) = bytes_eq text (codes "true")

-- by the matches of the subcommand: whether rows may be named
abbrev pub names_in : List Row → Bool
names_in rows = is_given (first_of (codes "names") rows)

-- the same: whether requests get keys
abbrev pub journal_in : List Row → Bool
journal_in rows = is_given (first_of (codes "journal") rows)

-- the same: whether the page is served
abbrev pub page_in : List Row → Bool
page_in rows = is_given (first_of (codes "page") rows)

-- the same: whether the run ends at the first line that is refused or faulty
abbrev pub stop_in : List Row → Bool
stop_in rows = is_given (first_of (codes "stop") rows)

-- the same: whether all lines are read before any is run
abbrev pub check_in : List Row → Bool
check_in rows = is_given (first_of (codes "check") rows)

-- the same: whether a person is told why a line or a row isn't done
abbrev pub explain_in : List Row → Bool
explain_in rows = is_given (first_of (codes "explain") rows)

-- the same: whether a file is read loosely
abbrev pub loose_in : List Row → Bool
loose_in rows = is_given (first_of (codes "loose") rows)

-- the same: whether the books are to have what it says that they had
abbrev pub unchanged_in : List Row → Bool
unchanged_in rows = is_given (first_of (codes "unchanged") rows)

-- how a file is read; the books are asked of one that is read loosely alone
abbrev pub reading_by : Bool → Bool → Option FileReading
reading_by false false = Some Strict
reading_by true false = Some Loose
reading_by true true = Some Unchanged
reading_by false true = None

-- where rows may be named any word may say one, else a number alone
abbrev pub subject_by : Bool → Option Text → Option Subject
subject_by names None = None
subject_by false (Some text) = option_map numbered (number_in text)
subject_by true (Some text) = Some (worded text)

-- by the matches of the subcommand
abbrev pub run_words_in : List Row → RunWords
run_words_in rows = record {
  names = names_in rows;
  stop = stop_in rows;
  check = check_in rows;
  explain = explain_in rows;
  journal = journal_in rows;
}

abbrev pub run_in : List Row → DeskTask
run_in rows = run (first_of (codes "db") rows) (run_words_in rows)

unfoldable pub export_in : List Row → Option DeskTask
export_in rows = export_with (first_of (codes "db") rows) (option_and_then table_named (first_of (codes "table") rows))

abbrev pub open_in : List Row → Bool
open_in rows = is_given (first_of (codes "open") rows)

abbrev pub csv_in : List Row → Bool
csv_in rows = is_given (first_of (codes "csv") rows)

infixl 10 ◌>>=◌
abbrev ◌>>=◌ : {A B : Type 0} → Option A → (A → Option B) → Option B
None >>= f = None
(Some x) >>= f = f x

-- a report of the row, or its second form, which is a list, of whatever the word says
abbrev pub report_by : Bool → Text → ReportName → Subject → Text → DeskTask
report_by false file name of word = report file name of
report_by true file name of word = show file (named name word) true

unfoldable pub report_in : List Row → Option DeskTask
report_in rows = do
  file ← first_of (codes "db") rows
  name ← option_and_then report_named (first_of (codes "name") rows)
  of ← subject_by (names_in rows) (first_of (codes "number") rows)
  word ← first_of (codes "number") rows
  Some (report_by (csv_in rows) file name of word)

unfoldable pub show_in : List Row → Option DeskTask
show_in rows = do
  file ← first_of (codes "db") rows
  name ← first_of (codes "list") rows
  low ← low_in (first_of (codes "low") rows)
  listed ← listed_by name (first_of (codes "of") rows) low (open_in rows) (first_of (codes "from") rows)
      (first_of (codes "to") rows)
  Some (show file listed (csv_in rows))

-- something is said of a list beside its name and a file of levels
abbrev pub has_list_words : List Row → Bool
has_list_words rows =
    is_some (first_of (codes "of") rows) || is_some (first_of (codes "low") rows) || open_in rows
    || is_some (first_of (codes "from") rows) || is_some (first_of (codes "to") rows)

-- whether a file of levels is named
abbrev pub has_levels : List Row → Bool
has_levels rows = is_some (first_of (codes "levels") rows)

-- the list of what has less free than its level, with which the file of levels goes, and nothing else
unfoldable pub low_list_in : List Row → Option DeskTask
low_list_in rows = do
  file ← first_of (codes "db") rows
  name ← first_of (codes "list") rows
  levels ← first_of (codes "levels") rows
  if not (bytes_eq name (codes "low")) || has_list_words rows then None else Some (low_list file levels (csv_in rows))

-- a list, by whether a file of levels is named
abbrev pub shown_in : List Row → Option DeskTask
shown_in rows = if has_levels rows then low_list_in rows else show_in rows

unfoldable pub dump_in : List Row → Option DeskTask
dump_in rows = option_map dump (first_of (codes "db") rows)

unfoldable pub migrate_in : List Row → Option DeskTask
migrate_in rows = option_map migrate (first_of (codes "db") rows)

-- what goes with the name of a command alone
abbrev pub has_sheet_words : List Row → Bool
has_sheet_words rows =
    is_some (first_of (codes "set") rows) || is_some (first_of (codes "column") rows) || stop_in rows

-- receipts or counts
unfoldable pub rows_import_in : List Row → Option DeskTask
rows_import_in rows = do
  file ← first_of (codes "db") rows
  kind ← option_and_then import_kind_named (first_of (codes "kind") rows)
  document ← option_and_then document_named (first_of (codes "document") rows)
  day ← option_and_then day_of (first_of (codes "day") rows)
  path ← first_of (codes "path") rows
  reading ← reading_by (loose_in rows) (unchanged_in rows)
  if has_sheet_words rows then None
      else Some (import file (record {
        kind = kind;
        document = document;
        day = day;
        path = path;
        names = names_in rows;
        reading = reading;
        explain = explain_in rows;
      }))

-- a file of records of that form's command
unfoldable pub sheet_import_in : Form → List Row → Option DeskTask
sheet_import_in form rows = do
  told ← sheet_in form rows
  file ← first_of (codes "db") rows
  path ← first_of (codes "path") rows
  if unchanged_in rows then None
      else Some (sheet file (record { told = told; path = path; stop = stop_in rows; explain = explain_in rows }))

abbrev pub import_by : Option Form → List Row → Option DeskTask
import_by None rows = rows_import_in rows
import_by (Some form) rows = sheet_import_in form rows

abbrev pub import_in : List Row → Option DeskTask
import_in rows = import_by (form_in rows) rows

unfoldable pub lines_in : List Row → Option DeskTask
lines_in rows = do
  form ← form_in rows
  told ← sheet_in form rows
  path ← first_of (codes "path") rows
  Some (lines told path)

-- no count, or one that a serving may have
abbrev pub count_in : Option Text → Option (Option ℕ)
count_in None = Some None
count_in (Some text) = option_map (λ count. Some count) (number_up_to 1000000 text)

unfoldable pub serve_in : List Row → Option DeskTask
serve_in rows = do
  port ← option_and_then (number_up_to 65535) (first_of (codes "port") rows)
  count ← count_in (first_of (codes "count") rows)
  Some
      (serve (first_of (codes "db") rows) (record {
        port = port;
        count = count;
        token = first_of (codes "token") rows;
        names = names_in rows;
        page = page_in rows;
        journal = journal_in rows;
      }))

-- the topic of help, or, where none is named, what a line can ask for
abbrev pub topic_by : Option Text → Text
topic_by None = codes "help"
topic_by (Some topic) = topic

abbrev pub guide_in : List Row → DeskTask
guide_in rows = guide (topic_by (first_of (codes "topic") rows))

-- ---- by the matches of the subcommand: what is asked of a service

-- it is asked, where its port or a token is told
abbrev pub is_at : List Row → Bool
is_at rows = is_some (first_of (codes "at") rows) || is_some (first_of (codes "token") rows)

-- what no service is told: a file, or what was said when it was started, or that reasons be told
abbrev pub has_own_words : List Row → Bool
has_own_words rows = is_some (first_of (codes "db") rows) || names_in rows || journal_in rows || explain_in rows

unfoldable pub served : List Row → Option Asking → Option DeskTask
served rows asking = do
  port ← option_and_then (number_up_to 65535) (first_of (codes "at") rows)
  asked ← asking
  if has_own_words rows then None else Some (at port (first_of (codes "token") rows) asked)

-- of a service, where it is asked, and else as it is
abbrev pub placed : List Row → Option DeskTask → Option Asking → Option DeskTask
placed rows local asking = if is_at rows then served rows asking else local

abbrev pub lines_asked : List Row → Option Asking
lines_asked rows = Some (ats.lines (record { stop = stop_in rows; check = check_in rows }))

-- not in its second form
unfoldable pub report_asked : List Row → Option Asking
report_asked rows = do
  name ← first_of (codes "name") rows
  number ← option_and_then number_in (first_of (codes "number") rows)
  if csv_in rows then None else Some (ats.report name number)

abbrev pub table_asked : List Row → Option Asking
table_asked rows = option_map ats.table (first_of (codes "table") rows)

abbrev pub is_empty_word : Option Text → Bool
is_empty_word None = false
is_empty_word (Some word) = length word == 0

-- no list by days, none of a file of levels, and none of a word that has no byte
unfoldable pub show_asked : List Row → Option Asking
show_asked rows = do
  name ← first_of (codes "list") rows
  low ← low_in (first_of (codes "low") rows)
  if not (is_some (list_by name (first_of (codes "of") rows) low (open_in rows)))
      || (is_some (first_of (codes "from") rows) || is_some (first_of (codes "to") rows) || has_levels rows)
      || is_empty_word (first_of (codes "of") rows) then None
      else Some (ats.show name (first_of (codes "of") rows)
      (record { low = low; only_open = open_in rows; csv = csv_in rows }))

-- a file as it stands
unfoldable pub file_asked : List Row → Option Asking
file_asked rows = do
  kind ← first_of (codes "kind") rows
  document ← first_of (codes "document") rows
  proper ← document_named document
  day ← first_of (codes "day") rows
  known ← day_of day
  path ← first_of (codes "path") rows
  if has_sheet_words rows || unchanged_in rows then None
      else Some (ats.file (loose_in rows && is_some (import_kind_named kind)) kind document day path)

abbrev pub rows_in : ArgMatches → List Row
rows_in m = rows_of (found_of m)

-- the first value of that word or option
abbrev pub given_in : Text → ArgMatches → Option Text
given_in id m = first_of id (rows_in m)

-- a run of each line as it comes, in which no row may be named and no request gets a key
abbrev pub plain_words : RunWords
plain_words = record { names = false; stop = false; check = false; explain = false; journal = false }

abbrev pub plain_run : Option Text → DeskTask
plain_run file = run file plain_words

-- by the subcommand and its matches: no subcommand is a run in memory
abbrev pub desk_task_met : Option (Text × List Row) → Option DeskTask
desk_task_met None = Some (plain_run None)
desk_task_met (Some met) =
    if bytes_eq met.0 (codes "report") then placed met.1 (report_in met.1) (report_asked met.1)
    else if bytes_eq met.0 (codes "export") then placed met.1 (export_in met.1) (table_asked met.1)
    else if bytes_eq met.0 (codes "dump") then placed met.1 (dump_in met.1) (Some ats.dump)
    else if bytes_eq met.0 (codes "show") then placed met.1 (shown_in met.1) (show_asked met.1)
    else if bytes_eq met.0 (codes "migrate") then migrate_in met.1
    else if bytes_eq met.0 (codes "import") then placed met.1 (import_in met.1) (file_asked met.1)
    else if bytes_eq met.0 (codes "lines") then lines_in met.1
    else if bytes_eq met.0 (codes "serve") then serve_in met.1
    else if bytes_eq met.0 (codes "stop") then served met.1 (Some ats.stop)
    else if bytes_eq met.0 (codes "help") then Some (guide_in met.1)
    else placed met.1 (Some (run_in met.1)) (lines_asked met.1)

-- what the words ask of a desk, where nothing is found wrong
unfoldable pub desk_task : Places → List Text → Option DeskTask
desk_task places words = desk_task_met (subcommand_of (command_line places) words)

-- what is looked at of the desk in a file
abbrev pub look_task : Text → LookAt → DeskTask
look_task file (look.Report name of) = report file name (subject_of of)
look_task file (look.Export table) = export file table
look_task file look.Dump = dump file
look_task file (look.Show list csv) = show file (listed_of list) csv
look_task file (look.Low levels csv) = low_list file levels.now csv

abbrev pub rows_import : RowsFile → RowsImport
rows_import rows = record {
  kind = rows.kind;
  document = rows.document;
  day = rows.day;
  path = rows.path.now;
  names = rows.names;
  reading = rows.reading;
  explain = rows.explain;
}

abbrev pub sheet_import : SheetFile → SheetImport
sheet_import file =
    record { told = shown_sheet file.sheet; path = file.path.now; stop = file.stop; explain = file.explain }

abbrev pub serving : ServeWords → Serving
serving how = record {
  port = how.port;
  count = how.count;
  token = option_map (λ path. path.now) how.token;
  names = how.names;
  page = how.page;
  journal = how.journal;
}

-- the task of a desk, if it is one
abbrev pub desk_task_of : Task → Option DeskTask
desk_task_of (Run file how) = Some (run (option_map (λ path. path.now) file) how)
desk_task_of (Look file shown) = Some (look_task file.now shown)
desk_task_of (Migrate file) = Some (migrate file.now)
desk_task_of (Import file rows) = Some (import file.now (rows_import rows))
desk_task_of (Sheet file told) = Some (sheet file.now (sheet_import told))
desk_task_of (Lines told path) = Some (lines (shown_sheet told) path.now)
desk_task_of (Serve file how) = Some (serve (option_map (λ path. path.now) file) (serving how))
desk_task_of (Guide topic) = Some (guide topic.now)
desk_task_of (At port token asked) = Some (at port (option_map (λ path. path.now) token) (asking_of asked))
desk_task_of (Help e) = None
desk_task_of (Wrong e) = None
desk_task_of Unreadable = None
desk_task_of Memory = None

abbrev pub AsksFor : Option DeskTask → Option Task → Type 0
AsksFor desk_task task = option_map desk_task_of task ≡ option_map (λ w. Some w) desk_task

-- the file of the desk that is asked for
abbrev pub file_of : Task → Option (Bor Text)
file_of (Run file how) = file
file_of (Look file shown) = Some file
file_of (Migrate file) = Some file
file_of (Import file rows) = Some file
file_of (Sheet file told) = Some file
file_of (Lines told path) = None
file_of (Serve file how) = file
file_of (Guide topic) = None
file_of (At port token asked) = None
file_of (Help e) = None
file_of (Wrong e) = None
file_of Unreadable = None
file_of Memory = None

-- the task of a desk is told as it is; where there is none, a value is wrong; unless memory ran out
abbrev pub Tells : Option DeskTask → Task → Type 0
Tells desk_task (Run file how) = desk_task ≡ desk_task_of (Run file how)
Tells desk_task (Look file shown) = desk_task ≡ desk_task_of (Look file shown)
Tells desk_task (Migrate file) = desk_task ≡ desk_task_of (Migrate file)
Tells desk_task (Import file rows) = desk_task ≡ desk_task_of (Import file rows)
Tells desk_task (Sheet file told) = desk_task ≡ desk_task_of (Sheet file told)
Tells desk_task (Lines told path) = desk_task ≡ desk_task_of (Lines told path)
Tells desk_task (Serve file how) = desk_task ≡ desk_task_of (Serve file how)
Tells desk_task (Guide topic) = desk_task ≡ desk_task_of (Guide topic)
Tells desk_task (At port token asked) = desk_task ≡ desk_task_of (At port token asked)
Tells desk_task (Help e) = ⊥
Tells desk_task (Wrong e) = (desk_task ≡ None) × (kind_of e ≡ ValueValidation)
Tells desk_task Unreadable = ⊥
Tells desk_task Memory = Unit {0}

-- what `clap` makes of the words
pub record Parses (words : List Text) (r : Result ArgMatches Error) : Type 0 where
  pub places : Places
  pub fails : FailsBy (faults places words) r
  pub desk_task : IfOk r (λ m. desk_task_met (subcommand_rows_of m) ≡ desk_task places words)

-- help, or the version: what is printed because it is asked for
abbrev pub IsShown : ErrorKind → Type 0
IsShown kind = (kind ≡ DisplayHelp) ⊎ (kind ≡ DisplayVersion)

abbrev pub AnswersAt : Places → List Text → Task → Type 0
AnswersAt places words (Run file how) =
    (faults places words ≡ []) × (desk_task places words ≡ desk_task_of (Run file how))
AnswersAt places words (Look file shown) =
    (faults places words ≡ []) × (desk_task places words ≡ desk_task_of (Look file shown))
AnswersAt places words (Migrate file) =
    (faults places words ≡ []) × (desk_task places words ≡ desk_task_of (Migrate file))
AnswersAt places words (Import file rows) =
    (faults places words ≡ []) × (desk_task places words ≡ desk_task_of (Import file rows))
AnswersAt places words (Sheet file told) =
    (faults places words ≡ []) × (desk_task places words ≡ desk_task_of (Sheet file told))
AnswersAt places words (Lines told path) =
    (faults places words ≡ []) × (desk_task places words ≡ desk_task_of (Lines told path))
AnswersAt places words (Serve file how) =
    (faults places words ≡ []) × (desk_task places words ≡ desk_task_of (Serve file how))
AnswersAt places words (Guide topic) =
    (faults places words ≡ []) × (desk_task places words ≡ desk_task_of (Guide topic))
AnswersAt places words (At port token asked) =
    (faults places words ≡ []) × (desk_task places words ≡ desk_task_of (At port token asked))
AnswersAt places words (Help e) = IsShown (kind_of e) × IsAmong (kind_of e) (faults places words)
AnswersAt places words (Wrong e) =
    ((¬ IsShown (kind_of e)) × (kind_of e ≢ OutOfMemory) × IsAmong (kind_of e) (faults places words))
    ⊎ ((faults places words ≡ []) × (desk_task places words ≡ None) × (kind_of e ≡ ValueValidation))
AnswersAt places words Unreadable = ⊥
AnswersAt places words Memory = Unit {0}

-- where nothing is found wrong, what the words ask of a desk, or that a value is wrong; else what is found
abbrev pub Answers : List Text → Task → Type 0
Answers words task = (places : Places) × AnswersAt places words task

-- a run in memory of each line as it comes, in which no row may be named and no request gets a key, unless memory ran out
abbrev pub Runs : Task → Type 0
Runs (Run file how) = (file ≡ None) × (how ≡ plain_words)
Runs (Look file shown) = ⊥
Runs (Migrate file) = ⊥
Runs (Import file rows) = ⊥
Runs (Sheet file told) = ⊥
Runs (Lines told from) = ⊥
Runs (Serve file how) = ⊥
Runs (Guide topic) = ⊥
Runs (At port token asked) = ⊥
Runs (Help e) = ⊥
Runs (Wrong e) = ⊥
Runs Unreadable = ⊥
Runs Memory = Unit {0}

-- a run of each line as it comes on the desk in this file, in which no row may be named and no request gets a key, unless
-- memory ran out
abbrev pub RunsOn : Text → Task → Type 0
RunsOn path (Run file how) = (option_map (λ given. given.now) file ≡ Some path) × (how ≡ plain_words)
RunsOn path (Look file shown) = ⊥
RunsOn path (Migrate file) = ⊥
RunsOn path (Import file rows) = ⊥
RunsOn path (Sheet file told) = ⊥
RunsOn path (Lines told from) = ⊥
RunsOn path (Serve file how) = ⊥
RunsOn path (Guide topic) = ⊥
RunsOn path (At port token asked) = ⊥
RunsOn path (Help e) = ⊥
RunsOn path (Wrong e) = ⊥
RunsOn path Unreadable = ⊥
RunsOn path Memory = Unit {0}

-- help or the version, by its kind, unless memory ran out
abbrev pub HelpsBy : ErrorKind → Task → Type 0
HelpsBy kind (Run file how) = ⊥
HelpsBy kind (Look file shown) = ⊥
HelpsBy kind (Migrate file) = ⊥
HelpsBy kind (Import file rows) = ⊥
HelpsBy kind (Sheet file told) = ⊥
HelpsBy kind (Lines told from) = ⊥
HelpsBy kind (Serve file how) = ⊥
HelpsBy kind (Guide topic) = ⊥
HelpsBy kind (At port token asked) = ⊥
HelpsBy kind (Help e) = kind_of e ≡ kind
HelpsBy kind (Wrong e) = ⊥
HelpsBy kind Unreadable = ⊥
HelpsBy kind Memory = Unit {0}
