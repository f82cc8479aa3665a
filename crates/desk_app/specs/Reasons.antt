-- Why a line or a row wasn't done, in words, or what a name that it gave is near: what a person is told beside the answer.
use Rattle.std.specs.Prelude.{◌≡◌, ℕ, List, [], ◌∷◌, ◌++◌, decimal, codes, Option, Some, None, option_map, string_bytes}
use Rattle.std.specs.Prelude.{◌⊎◌, Bool, Result, Ok, Err}
use Rattle.word_core.specs.Refusal.{refusal_name}
use Rattle.word_core.specs.declared.refusal.Refusal.{Refusal}
use Rattle.desk_core.specs.Machine.{Outcome, State, step}
use Rattle.desk_core.specs.declared.command.Request.{Request as Req}
use Rattle.list_core.specs.Facts.{row_fact}
use Rattle.list_core.specs.NearNames.{IsNote}
use Rattle.list_core.specs.RequestFacts.{request_facts}
use Rattle.report_core.specs.Lines.{Lines}
use Rattle.report_core.specs.Reports.{report_lines}
use Rattle.report_core.specs.declared.name.ReportName.{ReportName}
use Rattle.desk_wire.specs.declared.read.Wish.{Wish}
use Rattle.desk_wire.specs.declared.read.Wish.TheVariants.{Request, Report}
use Rattle.desk_wire.specs.Reading as reading
use Rattle.desk_wire.specs.declared.fault.What.{What}
use Rattle.desk_wire.specs.declared.fault.WireFault.{WireFault}
use Rattle.desk_wire.specs.declared.fault.WrongField.{WrongField}
use Rattle.desk_wire.specs.Faults.{fault_name, shown_field}
use Rattle.desk_wire.specs.Imports.{Wrong}
use Rattle.desk_wire.specs.Reading.{table_of}
use Rattle.desk_wire.specs.WrongFields.{TellsField, wrong_in_line}
use Rattle.report_core.specs.Escaped.{escaped}
use Rattle.desk_app.specs.Journal.{journalled}
use Rattle.desk_app.specs.Runs.{naming}
use Rattle.desk_app.specs.declared.options.LineOptions.{LineOptions}
use Rattle.desk_app.specs.declared.undone.Place.{Place}
use Rattle.desk_app.specs.declared.undone.Place.TheVariants.{Line, Row}
use Rattle.desk_app.specs.declared.undone.Why.{Why}
use Rattle.desk_app.specs.declared.undone.Why.TheVariants.{Refused, NoReport, FaultyLine, NewName, FaultyFile}

abbrev pub place_text : Place → List ℕ
place_text (Line n) = codes "line " ++ decimal n
place_text (Row n) = codes "row " ++ decimal n

-- texts with a colon between them
abbrev pub colons : List (List ℕ) → List ℕ
colons [] = []
colons (w ∷ []) = w
colons (w ∷ v ∷ vs) = w ++ (codes ": " ++ colons (v ∷ vs))

-- the name of a field, where one is wrong
abbrev pub field_words : Option WrongField → List (List ℕ)
field_words None = []
field_words (Some field) = string_bytes field.name ∷ []

-- what stands in it, if it is there
abbrev pub value_words : Option WrongField → List (List ℕ)
value_words None = []
value_words (Some field) = by_text (option_map string_bytes field.text)
  where
    by_text : Option (List ℕ) → List (List ℕ)
    by_text None = []
    by_text (Some text) = text ∷ []

-- a fault, with the field that it is in
abbrev pub fault_words : List ℕ → What → Option WrongField → List ℕ
fault_words place what field = colons (place ∷ (field_words field ++ (fault_name what ∷ value_words field)))

-- a text begins with this
abbrev pub Begins : List ℕ → List ℕ → Type 0
Begins front text = (more : List ℕ) × (text ≡ front ++ more)

-- the line of a note
abbrev pub note_line : Place → List ℕ → List ℕ
note_line place note = colons (place_text place ∷ codes "note" ∷ note ∷ []) ++ (10 ∷ [])

-- of a request that was done: nothing, or the note on the name that it gave, in the books with it
abbrev pub IsNewName : State → Place → Req → List ℕ → Type 0
IsNewName s place request text =
    (text ≡ []) ⊎ ((note : List ℕ) × IsNote s request.command (Some note) × (text ≡ note_line place note))

-- of a request: what its key was used for, each row that it names, what it asks for, and which of its serials are taken
abbrev pub refused_words : State → Place → Req → Refusal → List ℕ
refused_words s place request refusal =
    colons (place_text place ∷ refusal_name refusal ∷ request_facts s request.key request.command ∷ [])

-- of a report: the row that it would be of
abbrev pub no_report_words : State → ℕ → ReportName → ℕ → List ℕ
no_report_words s line name of =
    colons (place_text (Line line) ∷ codes "NoSuch" ∷ row_fact s (codes "of") (table_of name) of ∷ [])

-- What is told begins with the place, the answer's word and the facts in these books: of a request and a report those
-- above, of a fault the field and what stands in it. Of none of them a terminal acts on anything, or turns. Behind them
-- stands what the word means.
abbrev pub IsReason : State → Why → List ℕ → Type 0
IsReason s (Refused place request refusal) text =
    Begins (escaped (refused_words s place request.now refusal)) text
IsReason s (NoReport line name of) text = Begins (escaped (no_report_words s line name of)) text
IsReason s (FaultyLine names line fault) text =
    (field : Option WrongField) × TellsField field (wrong_in_line (naming names s) line.now)
    × Begins (escaped (fault_words (place_text (Line fault.now.line)) fault.now.what field)) text
IsReason s (NewName place request) text = IsNewName s place request.now text
IsReason s (FaultyFile kind fault field) text =
    Begins (escaped (fault_words (codes "record " ++ decimal fault.now.line) fault.now.what field.now)) text

-- what waits to be told is as before, or such a text comes behind it
abbrev pub Waits : (List ℕ → Type 0) → List ℕ → List ℕ → Type 0
Waits is_told old new = (new ≡ old) ⊎ ((text : List ℕ) × is_told text × (new ≡ old ++ text))

-- such a text comes behind what waits
abbrev pub AddsReason : State → Why → List ℕ → List ℕ → Type 0
AddsReason s why old new = (text : List ℕ) × IsReason s why text × (new ≡ old ++ text)

abbrev pub Notes : State → Why → List ℕ → List ℕ → Type 0
Notes s why old new = Waits (IsReason s why) old new

-- ---- that it is the reason of what is answered

-- of a request that stands there: of one that is done, the note on its new name; of one that is refused, the refusal
abbrev pub NotesOutcome : Place → Req → State × Outcome → List ℕ → List ℕ → Type 0
NotesOutcome place request (s, Ok answer) old new = Waits (IsNewName s place request) old new
NotesOutcome place request (s, Err refusal) old new =
    Waits (Begins (escaped (refused_words s place request refusal))) old new

-- of a line that asks for a report: of a row that isn't there, which row
abbrev pub NotesReport : State → ℕ → ReportName → ℕ → Option Lines → List ℕ → List ℕ → Type 0
NotesReport s line name of (Some lines) old new = new ≡ old
NotesReport s line name of None old new =
    Waits (Begins (escaped (no_report_words s line name of))) old new

-- of a faulty line: its fault, and the member that can't be read
abbrev pub NotesFault : Bool → State → ℕ → List ℕ → What → List ℕ → List ℕ → Type 0
NotesFault names s number line what old new =
    Waits (λ text. (field : Option WrongField) × TellsField field (wrong_in_line (naming names s) line)
    × Begins (escaped (fault_words (place_text (Line number)) what field)) text) old new

-- of a request with the key that it has, or gets
abbrev pub NotesRequest : State → ℕ → Req → List ℕ → List ℕ → Type 0
NotesRequest s number request old new = NotesOutcome (Line number) request (step s request) old new

abbrev pub NotesWish : LineOptions → State → ℕ → List ℕ → Result Wish What → List ℕ → List ℕ → Type 0
NotesWish options s number line (Ok (Request request)) old new =
    NotesRequest s number (journalled options.journal s request) old new
NotesWish options s number line (Ok (Report name of)) old new =
    NotesReport s number name of (report_lines name of s) old new
NotesWish options s number line (Err what) old new = NotesFault options.names s number line what old new

-- of a file: of its first fault, and of the field that can't be read; of its rows, what is told of each
abbrev pub NotesFile : {A : Type 0} → Result A WireFault → Option Wrong → List ℕ → List ℕ → Type 0
NotesFile (Ok rows) wrong old new = Unit {0}
NotesFile (Err fault) wrong old new =
    Waits (λ text. (field : Option WrongField) × (option_map shown_field field ≡ wrong)
    × Begins (escaped (fault_words (codes "record " ++ decimal fault.line) fault.what field)) text) old new

-- of a line, by what it asks for
abbrev pub NotesLine : LineOptions → State → ℕ → List ℕ → List ℕ → List ℕ → Type 0
NotesLine options s number line old new =
    NotesWish options s number line (reading.line (naming options.names s) line) old new
