-- The books as a service of HTTP: what each operation does to a state, and what is replied.
use Rattle.std.specs.Prelude.{◌≡◌, ◌⊎◌, ◌+◌, ◌^◌, ◌<◌, ◌&&◌, ◌||◌, nat_lt, ℕ, List, [], Bool, true, false, Option, Some, None}
use Rattle.std.specs.Prelude.{IsSome, is_some, Result, Ok, Err, option_map, if◌then◌else◌}
use Rattle.sqlite.specs.Tree.{Trees}
use Rattle.word_core.specs.Day.{CivilDay}
use Rattle.desk_core.specs.Machine.{State, Outcome, step}
use Rattle.desk_core.specs.declared.command.Request.{Request}
use Rattle.report_core.specs.Lines.{Lines}
use Rattle.report_core.specs.Reports.{report_lines}
use Rattle.report_core.specs.declared.name.ReportName as report
use Rattle.report_core.specs.declared.name.ReportName.TheVariants as reports
use Rattle.table_store.specs.declared.name.TableName.{TableName}
use Rattle.desk_store.specs.Dumps.{dump_text}
use Rattle.desk_store.specs.Exports.{table_text}
use Rattle.desk_store.specs.Shown.{books_text, history_text}
use Rattle.desk_store.specs.StateTables.{TablesAre}
use Rattle.desk_wire.specs.declared.fault.What.{What}
use Rattle.desk_wire.specs.declared.kind.FileReading.{FileReading}
use Rattle.desk_wire.specs.declared.kind.FileReading.TheVariants.{Strict, Loose}
use Rattle.desk_wire.specs.declared.kind.ImportKind as wire_kind
use Rattle.desk_wire.specs.declared.kind.ImportKind.TheVariants as wire_kinds
use Rattle.desk_wire.specs.Reading as reading
use Rattle.desk_wire.specs.SheetForms.{sheet_form}
use Rattle.desk_wire.specs.Writing.{answer_text, refused_text, fault_text}
use Rattle.desk_http.specs.Services.{Machine, Operation, RunLine, ImportFile, ShowReport, ShowTable, ShowBooks, ShowHistory}
use Rattle.desk_http.specs.Services.{ImportSheet, ShowList, RunLines, ShowDump, StopService, ReplyView, Stops}
use Rattle.desk_http.specs.Services as service
use Rattle.desk_http.specs.declared.query.LineWords.{LineWords}
use Rattle.desk_http.specs.declared.query.ListWords.{ListWords}
use Rattle.desk_http.specs.declared.target.ImportKind.{ImportKind}
use Rattle.desk_http.specs.declared.target.ImportKind.TheVariants.{Receipts, Counts}
use Rattle.desk_http.specs.declared.target.ReportName.{ReportName}
use Rattle.desk_http.specs.declared.target.ReportName.TheVariants.{Ledger, Stock, Content, WhereUsed, Shortage, History}
use Rattle.desk_http.specs.declared.service.Outcome.TheVariants.{Answered, Refused, Faulty, Reported, Exported, Unknown}
use Rattle.desk_http.specs.declared.service.Outcome.TheVariants.{AnsweredLines}
use Rattle.desk_http.specs.declared.service.Outcome as kind
use Rattle.desk_http.specs.declared.service.Tag.{Tag}
use Rattle.desk_http.specs.declared.service.Failure.{Failure}
use Rattle.desk_http.specs.declared.service.Failure.TheVariants.{Store, Memory}
use Rattle.desk_http.specs.declared.service.NoReply.{NoReply}
use Rattle.desk_http.specs.declared.service.NoReply.TheVariants.{Failed, Untold}
use Rattle.desk_app.specs.ImportRuns.{Reading, file_rows, rows_after, rows_out, RanSome, IsLeftByImport}
use Rattle.list_words.specs.Lists.{Listed, lines_by, list_by, shown_list}
use Rattle.desk_wire.specs.Printed.{printed}
use Rattle.desk_app.specs.Journal.{journalled}
use Rattle.desk_app.specs.Runs.{lines_of, naming}
use Rattle.desk_app.specs.declared.options.LineOptions.{LineOptions}
use Rattle.table_store.specs.Named.{table_named}
use Rattle.desk_app.specs.SheetReplies.{AreLeftByLines, RanFirst, by_form, by_said, form_lines, lines_by_said, said_run}
use Rattle.desk_app.specs.SheetRuns.{sheet_options, sheet_run}

-- a kind and a name, as the lines and the reports have them
abbrev pub import_kind : ImportKind → wire_kind.ImportKind
import_kind Receipts = wire_kinds.Receipts
import_kind Counts = wire_kinds.Counts

abbrev pub report_name : ReportName → report.ReportName
report_name Ledger = reports.Ledger
report_name Stock = reports.Stock
report_name Content = reports.Content
report_name WhereUsed = reports.WhereUsed
report_name Shortage = reports.Shortage
report_name History = reports.History

-- ---- each operation: the state after it, and what is replied. Lines and files may name rows, or may not

abbrev pub by_outcome : State × Outcome → State × ReplyView
by_outcome (s, Ok answer) = (s, (Answered, answer_text answer))
by_outcome (s, Err refusal) = (s, (Refused, refused_text refusal))

-- a body is one line, of number 1, that asks for no report; with the journal it gets a key where it has none
abbrev pub by_request : Bool → State → Result Request What → State × ReplyView
by_request journal s (Ok request) = by_outcome (step s (journalled journal s request))
by_request journal s (Err what) = (s, (Faulty, fault_text (record { line = 1; what = what })))

unfoldable pub run_line : LineOptions → State → List ℕ → State × ReplyView
run_line options s line = by_request options.journal s (reading.request (naming options.names s) line)

-- a report is told though rows of it were refused
abbrev pub by_reading : State → Reading → State × ReplyView
by_reading s (Ok rows) = (rows_after s rows, (Reported, rows_out s rows))
by_reading s (Err fault) = (s, (Faulty, fault_text fault))

-- a file is read strictly or loosely
abbrev pub reading_of : Bool → FileReading
reading_of false = Strict
reading_of true = Loose

-- what a file of rows asks, that is sent so
abbrev pub rows_sent : Bool → State → Bool → ImportKind → List ℕ → CivilDay → List ℕ → Reading
rows_sent names s loose kind document day rows =
    file_rows (record {
      kind = import_kind kind;
      document = document;
      day = day;
      reading = reading_of loose;
      names = names;
    }) s rows

unfoldable pub import_file : Bool → State → Bool → ImportKind → List ℕ → CivilDay → List ℕ → State × ReplyView
import_file names s loose kind document day rows = by_reading s (rows_sent names s loose kind document day rows)

abbrev pub by_printed : List ℕ × Bool → ReplyView
by_printed (text, true) = (Reported, text)
by_printed (text, false) = (Refused, text)

unfoldable pub show_report : State → ReportName → ℕ → ReplyView
show_report s name number = by_printed (printed (report_lines (report_name name) number s))

-- a table as it is exported, where there is one of the name
abbrev pub exported : State → Option TableName → ReplyView
exported s None = (Unknown, [])
exported s (Some table) = (Exported, table_text table s)

-- rows are said by what they are called, whatever the service has lines do
unfoldable pub import_sheet : State → List ℕ → List ℕ → CivilDay → List ℕ → State × ReplyView
import_sheet s command document day file = by_form s (sheet_form command) document day file

-- the lines of such a file that are run
unfoldable pub sheet_lines : List ℕ → List ℕ → CivilDay → List ℕ → List (List ℕ)
sheet_lines command document day file = form_lines (sheet_form command) document day file

unfoldable pub show_table : State → List ℕ → ReplyView
show_table s name = exported s (table_named name)

-- lines as they are sent
unfoldable pub run_lines : LineOptions → State → LineWords → List ℕ → State × ReplyView
run_lines options s said text = by_said options said s (lines_of text)

-- those of them that may be run
unfoldable pub lines_to_run : LineOptions → LineWords → List ℕ → List (List ℕ)
lines_to_run options said text = lines_by_said options said (lines_of text)

-- a list as comma-separated values, or in columns; or that there is no such row
abbrev pub list_outcome : Bool → kind.Outcome
list_outcome true = Exported
list_outcome false = Reported

abbrev pub by_shown : Bool → List ℕ × Bool → ReplyView
by_shown csv (text, true) = (list_outcome csv, text)
by_shown csv (text, false) = (Refused, text)

-- or why its word says none
abbrev pub by_listed : Bool → Result (Option Lines) What → ReplyView
by_listed csv (Ok lines) = by_shown csv (shown_list csv lines)
by_listed csv (Err what) = (Refused, fault_text (record { line = 0; what = what }))

-- a list, where there is one of the name with which the words go
abbrev pub by_list : State → Bool → Option Listed → ReplyView
by_list s csv None = (Unknown, [])
by_list s csv (Some list) = by_listed csv (lines_by list s)

unfoldable pub show_list : State → List ℕ → Option (List ℕ) → ListWords → ReplyView
show_list s name word said = by_list s said.csv (list_by name word said.low said.only_open)

-- ---- the tag of the books: what tells this run of the service from every other, and how many lines were answered and files
-- taken since it began

-- once one more was: none where it can't be counted any more
abbrev pub raised : Option Tag → Option Tag
raised None = None
raised (Some tag) =
    if nat_lt (tag.accepted + 1) (2 ^ 64) then Some (record tag { accepted = tag.accepted + 1 }) else None

-- by what is replied to a line or a file
abbrev pub tag_after : Option Tag → kind.Outcome → Option Tag
tag_after tag Answered = raised tag
tag_after tag Reported = raised tag
tag_after tag AnsweredLines = raised tag
tag_after tag _ = tag

-- what a service is a state of: the books' state; how what is sent is taken, which no operation changes; and the tag of the
-- books, if they have one
abbrev pub ServiceState : Type 0
ServiceState = State × LineOptions × Option Tag

abbrev pub counted : LineOptions → Option Tag → State × ReplyView → ServiceState × ReplyView
counted options tag done = ((done.0, options, tag_after tag done.1.0), done.1)

abbrev pub desk_machine : Machine ServiceState
desk_machine = record {
  run_line = λ d line. counted d.1 d.2 (run_line d.1 d.0 line);
  import_file = λ d loose kind document day rows.
      counted d.1 d.2 (import_file d.1.names d.0 loose kind document day rows);
  show_report = λ d name number. show_report d.0 name number;
  tag = λ d. d.2;
  show_table = λ d name. show_table d.0 name;
  show_books = λ d. books_text (option_map (λ tag. tag.accepted) d.2) d.0;
  show_history = λ d from. history_text from d.0;
  import_sheet = λ d command document day file. counted d.1 d.2 (import_sheet d.0 command document day file);
  show_list = λ d list word said. show_list d.0 list word said;
  run_lines = λ d said text. counted d.1 d.2 (run_lines d.1 d.0 said text);
  show_dump = λ d. dump_text d.0;
}

-- ---- what is left where there was no reply

-- of a line nothing was run, of a file the first of its rows, or of its lines
abbrev pub leaves_of : LineOptions → State → Operation → State → Type 0
leaves_of options s (RunLine line) s' = s' ≡ s
leaves_of options s (ImportFile loose kind document day rows) s' =
    RanSome (rows_sent options.names s loose kind document day rows) s s'
leaves_of options s (ShowReport name number) s' = s' ≡ s
leaves_of options s (ShowTable name) s' = s' ≡ s
leaves_of options s (ShowBooks known) s' = s' ≡ s
leaves_of options s (ShowHistory from) s' = s' ≡ s
leaves_of options s (ImportSheet command document day file) s' =
    RanFirst (sheet_run false) (sheet_lines command document day file) s s'
leaves_of options s (ShowList list word said) s' = s' ≡ s
leaves_of options s (RunLines said text) s' =
    RanFirst (said_run options said) (lines_to_run options said text) s s'
leaves_of options s StopService s' = s' ≡ s
leaves_of options s ShowDump s' = s' ≡ s

-- the tag is another then, since something may have been done
abbrev pub leaves : Failure → ServiceState → Operation → ServiceState → Type 0
leaves e d o d' = leaves_of d.1 d.0 o d'.0 × (d'.1 ≡ d.1) × (d'.2 ≡ raised d.2)

-- a line without a reply was not run; where its reply was not told, it was or was not
abbrev pub IsFailedLine : NoReply → LineOptions → State → List ℕ → State → Type 0
IsFailedLine (Failed e) options s line s' = s' ≡ s
IsFailedLine Untold options s line s' = (s' ≡ s) ⊎ (s' ≡ (run_line options s line).0)

-- of a file without a reply the first rows were run; where its reply was not told, none
abbrev pub IsFailedFile : NoReply → Reading → State → State → Type 0
IsFailedFile (Failed e) file s s' = RanSome file s s'
IsFailedFile Untold file s s' = s' ≡ s

-- of a file of a command without a reply the first lines were run; where its reply was not told, none
abbrev pub IsFailedSheet : NoReply → List (List ℕ) → State → State → Type 0
IsFailedSheet (Failed e) lines s s' = RanFirst (sheet_run false) lines s s'
IsFailedSheet Untold lines s s' = s' ≡ s

-- a request that failed was not run; where its reply was not told, it was
abbrev pub IsFailedRequest : NoReply → State → State → Request → Type 0
IsFailedRequest (Failed e) s s' r = s' ≡ s
IsFailedRequest Untold s s' r = s' ≡ (step s r).0

-- it is the books that failed
abbrev pub IsFailed : NoReply → Type 0
IsFailed (Failed e) = Unit {0}
IsFailed Untold = ⊥

-- books that weren't closed aren't, unless the database failed; where it failed, they are closed; where memory ran out
-- they were open and are
abbrev pub StaysOpenBy : {F : Type 0} → Option F → Option F → Option NoReply → Type 0
StaysOpenBy old new None = old ≡ None → new ≡ None
StaysOpenBy old new (Some (Failed Memory)) = (old ≡ None) × (new ≡ None)
StaysOpenBy old new (Some (Failed Store)) = IsSome new
StaysOpenBy old new (Some Untold) = old ≡ None → new ≡ None

-- open books alone are shown: of others it is told that the database failed
abbrev pub IsToldOfOpen : {F : Type 0} → Option F → Option NoReply → Type 0
IsToldOfOpen old None = old ≡ None
IsToldOfOpen old (Some (Failed Memory)) = old ≡ None
IsToldOfOpen old (Some (Failed Store)) = IsSome old
IsToldOfOpen old (Some Untold) = old ≡ None

abbrev pub IsShownOfOpen : {F : Type 0} → Option F → Operation → Option NoReply → Type 0
IsShownOfOpen old (RunLine line) why = Unit {0}
IsShownOfOpen old (ImportFile loose kind document day rows) why = Unit {0}
IsShownOfOpen old (ShowReport name number) why = IsToldOfOpen old why
IsShownOfOpen old (ShowTable name) why = IsToldOfOpen old why
IsShownOfOpen old (ShowBooks known) why = IsToldOfOpen old why
IsShownOfOpen old (ShowHistory from) why = IsToldOfOpen old why
IsShownOfOpen old (ImportSheet command document day file) why = Unit {0}
IsShownOfOpen old (ShowList list word said) why = IsToldOfOpen old why
IsShownOfOpen old (RunLines said text) why = Unit {0}
IsShownOfOpen old StopService why = Unit {0}
IsShownOfOpen old ShowDump why = IsToldOfOpen old why

-- the one where the database failed, else the other
abbrev pub IfStoreFailed : Option NoReply → Type 0 → Type 0 → Type 0
IfStoreFailed (Some (Failed Store)) failed other = failed
IfStoreFailed _ failed other = other

-- What a crash leaves of books that come from the one state to the other: the tables of this. Where the database failed,
-- it may be those after the line that failed, and of a file those before the last group of its rows, or of its lines.
abbrev pub IsLeftByOperation : LineOptions → Operation → Option NoReply → State → State → Trees → Type 0
IsLeftByOperation options (RunLine line) why s s' trees =
    IfStoreFailed why (TablesAre s' trees ⊎ TablesAre (run_line options s line).0 trees) (TablesAre s' trees)
IsLeftByOperation options (ImportFile loose kind document day rows) why s s' trees =
    IfStoreFailed why
    (IsLeftByImport (rows_sent options.names s loose kind document day rows) s s' trees) (TablesAre s' trees)
IsLeftByOperation options (ShowReport name number) why s s' trees = TablesAre s' trees
IsLeftByOperation options (ShowTable name) why s s' trees = TablesAre s' trees
IsLeftByOperation options (ShowBooks known) why s s' trees = TablesAre s' trees
IsLeftByOperation options (ShowHistory from) why s s' trees = TablesAre s' trees
IsLeftByOperation options (ImportSheet command document day file) why s s' trees =
    IfStoreFailed why (AreLeftByLines sheet_options (sheet_lines command document day file) s s' trees)
    (TablesAre s' trees)
IsLeftByOperation options (ShowList list word said) why s s' trees = TablesAre s' trees
IsLeftByOperation options (RunLines said text) why s s' trees =
    IfStoreFailed why (AreLeftByLines options (lines_to_run options said text) s s' trees) (TablesAre s' trees)
IsLeftByOperation options StopService why s s' trees = TablesAre s' trees
IsLeftByOperation options ShowDump why s s' trees = TablesAre s' trees

-- of books with these faults of the database before and after, of which a crash may leave these tables
abbrev pub Relates : {F : Type 0} → LineOptions → Option F → Option F → (Trees → Type 0) → State → State → Operation
    → Option NoReply → Type 0
Relates options old new may_leave s s' o why =
    StaysOpenBy old new why × IsShownOfOpen old o why × (old ≡ None → (trees : Trees) → may_leave trees
    → IsLeftByOperation options o why s s' trees)

-- ---- how a service ends

-- it is stopped by a request to stop that was replied to, and by nothing else
abbrev pub IsStoppedBy : Operation → Option NoReply → Bool → Bool → Type 0
IsStoppedBy StopService None old new = new ≡ true
IsStoppedBy _ _ old new = new ≡ old

-- it was stopped; or it ends once a fault has closed its books, and one has
abbrev pub is_over : {F : Type 0} → Bool → Bool → Option F → Bool
is_over stopped ends_at_fault failure = stopped || (ends_at_fault && is_some failure)

-- ---- what a tag tells

-- an operation was done, whatever came of it
abbrev pub WasDone : ServiceState → Operation → Result ReplyView NoReply → ServiceState → Type 0
WasDone d o (Ok reply) d' = (d', reply) ≡ service.step desk_machine d o
WasDone d o (Err why) d' = Stops desk_machine leaves why d o d'

-- a tag that was given later by the same run of a service, or none
abbrev pub IsLater : Option Tag → Option Tag → Type 0
IsLater tag None = Unit {0}
IsLater None (Some later) = ⊥
IsLater (Some tag) (Some later) = (later.began ≡ tag.began) × (tag.accepted < later.accepted)

-- the books are as they were and have the tag that they had, or they have a later one
abbrev pub Follows : ServiceState → ServiceState → Type 0
Follows d d' = ((d'.0 ≡ d.0) × (d'.2 ≡ d.2)) ⊎ IsLater d.2 d'.2

-- so it is after each operation, and so after several, of which the books with the same tag are the same
pub record TagsTellBooks : Type 0 where
  pub one : (d d' : ServiceState) (o : Operation) (result : Result ReplyView NoReply) → WasDone d o result d'
      → Follows d d'
  pub none : (d : ServiceState) → Follows d d
  pub more : (d d' d'' : ServiceState) → Follows d d' → Follows d' d'' → Follows d d''
  pub same : (d d' : ServiceState) (tag : Tag) → Follows d d' → d.2 ≡ Some tag → d'.2 ≡ Some tag → d'.0 ≡ d.0
