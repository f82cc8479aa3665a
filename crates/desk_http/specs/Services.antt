-- A service as a machine: what each operation does to a state, and what it replies.
use Rattle.std.specs.Prelude.{◌≡◌, ◌⊎◌, ◌++◌, ℕ, Bool, codes, List, [], ◌∷◌, Option, Some, None, Result, Ok, Err}
use Rattle.std.specs.Prelude.{decimal, if◌then◌else◌}
use Rattle.std.specs.Str.{bytes_eq}
use Rattle.word_core.specs.Day.{CivilDay}
use Rattle.desk_http.specs.Targets.{Resource, Run, Import, Report, Export, Books, HistoryFrom, Sheet, Show, RunAll, Stop}
use Rattle.desk_http.specs.Targets.{Dump}
use Rattle.desk_http.specs.declared.query.LineWords.{LineWords}
use Rattle.desk_http.specs.declared.query.ListWords.{ListWords}
use Rattle.desk_http.specs.declared.target.ImportKind.{ImportKind}
use Rattle.desk_http.specs.declared.target.ReportName.{ReportName}
use Rattle.desk_http.specs.declared.service.Outcome.{Outcome}
use Rattle.desk_http.specs.declared.service.Outcome.TheVariants.{Answered, Dumped, Shown, Unchanged}
use Rattle.desk_http.specs.declared.service.Reply.{Reply}
use Rattle.desk_http.specs.declared.service.Tag.{Tag}
use Rattle.desk_http.specs.declared.service.Failure.{Failure}
use Rattle.desk_http.specs.declared.service.Failure.TheVariants as failure
use Rattle.desk_http.specs.declared.service.NoReply.{NoReply}
use Rattle.desk_http.specs.declared.service.NoReply.TheVariants.{Failed, Untold}

-- what a request asks for: a resource, with the body that was sent to it, or the tag of the books that is known to whoever
-- asks for them
pub data Operation : Type 0 where
  RunLine : List ℕ → Operation
  ImportFile : Bool → ImportKind → List ℕ → CivilDay → List ℕ → Operation
  ShowReport : ReportName → ℕ → Operation
  ShowTable : List ℕ → Operation
  ShowBooks : Option (List ℕ) → Operation
  ShowHistory : ℕ → Operation
  ImportSheet : List ℕ → List ℕ → CivilDay → List ℕ → Operation
  ShowList : List ℕ → Option (List ℕ) → ListWords → Operation
  RunLines : LineWords → List ℕ → Operation
  StopService : Operation
  ShowDump : Operation

abbrev pub operation : Resource → Option (List ℕ) → List ℕ → Operation
operation Run known body = RunLine body
operation (Import loose kind document day) known body = ImportFile loose kind document day body
operation (Report name number) known body = ShowReport name number
operation (Export table) known body = ShowTable table
operation Books known body = ShowBooks known
operation (HistoryFrom number) known body = ShowHistory number
operation (Sheet command document day) known body = ImportSheet command document day body
operation (Show list word said) known body = ShowList list word said
operation (RunAll said) known body = RunLines said body
operation Stop known body = StopService
operation Dump known body = ShowDump

-- "began-accepted", the quotes too
abbrev pub tag_text : Tag → List ℕ
tag_text tag = 34 ∷ decimal tag.began ++ 45 ∷ decimal tag.accepted ++ 34 ∷ []

-- what a contract sees of a reply: of what kind it is, and the bytes of its body
abbrev pub ReplyView : Type 0
ReplyView = Outcome × List ℕ

abbrev pub reply_view : Reply → ReplyView
reply_view reply = (reply.outcome, reply.body.items)

abbrev pub heard : Result Reply NoReply → Result ReplyView NoReply
heard (Ok reply) = Ok (reply_view reply)
heard (Err e) = Err e

-- why there is no reply, if there is none
abbrev pub why_none : {A : Type 0} → Result A NoReply → Option NoReply
why_none (Ok reply) = None
why_none (Err e) = Some e

-- what a line, the rows of a file, and a report's name and number do in each state; the tag of the books there, if they
-- have one, what is replied to the name of a table, the text of the books, and that of the history from a number on;
-- what a file of a command does; what is replied to a list; what lines do; and the text of all tables
pub record Machine (S : Type 0) : Type 0 where
  pub run_line : S → List ℕ → S × ReplyView
  pub import_file : S → Bool → ImportKind → List ℕ → CivilDay → List ℕ → S × ReplyView
  pub show_report : S → ReportName → ℕ → ReplyView
  pub tag : S → Option Tag
  pub show_table : S → List ℕ → ReplyView
  pub show_books : S → List ℕ
  pub show_history : S → ℕ → List ℕ
  pub import_sheet : S → List ℕ → List ℕ → CivilDay → List ℕ → S × ReplyView
  pub show_list : S → List ℕ → Option (List ℕ) → ListWords → ReplyView
  pub run_lines : S → LineWords → List ℕ → S × ReplyView
  pub show_dump : S → List ℕ

-- the books with their tag; or, where the tag is the one that is known, that they haven't changed
abbrev pub books_reply : Option Tag → Option (List ℕ) → List ℕ → ReplyView
books_reply tag None books = (Shown tag, books)
books_reply None (Some known) books = (Shown None, books)
books_reply (Some tag) (Some known) books =
    if bytes_eq known (tag_text tag) then (Unchanged tag, []) else (Shown (Some tag), books)

-- what is replied where a service stops: {"stopped":true} and LF
abbrev pub stopped_reply : ReplyView
stopped_reply = (Answered, 123 ∷ 34 ∷ codes "stopped" ++ 34 ∷ 58 ∷ codes "true" ++ 125 ∷ 10 ∷ [])

module _ {S : Type 0} where
  abbrev pub step : Machine S → S → Operation → S × ReplyView
  step m s (RunLine line) = m.run_line s line
  step m s (ImportFile loose kind document day rows) = m.import_file s loose kind document day rows
  step m s (ShowReport name number) = (s, m.show_report s name number)
  step m s (ShowTable name) = (s, m.show_table s name)
  step m s (ShowBooks known) = (s, books_reply (m.tag s) known (m.show_books s))
  step m s (ShowHistory from) = (s, (Shown None, m.show_history s from))
  step m s (ImportSheet command document day file) = m.import_sheet s command document day file
  step m s (ShowList list word said) = (s, m.show_list s list word said)
  step m s (RunLines said text) = m.run_lines s said text
  step m s StopService = (s, stopped_reply)
  step m s ShowDump = (s, (Dumped, m.show_dump s))

  -- what an operation that failed leaves: what only reads leaves all as it was, and so does what stops
  abbrev pub Leaves : (Failure → S → Operation → S → Type 0) → Failure → S → Operation → S → Type 0
  Leaves left e s (RunLine line) s' = left e s (RunLine line) s'
  Leaves left e s (ImportFile loose kind document day rows) s' = left e s (ImportFile loose kind document day rows) s'
  Leaves left e s (ShowReport name number) s' = s' ≡ s
  Leaves left e s (ShowTable name) s' = s' ≡ s
  Leaves left e s (ShowBooks known) s' = s' ≡ s
  Leaves left e s (ShowHistory from) s' = s' ≡ s
  Leaves left e s (ImportSheet command document day file) s' = left e s (ImportSheet command document day file) s'
  Leaves left e s (ShowList list word said) s' = s' ≡ s
  Leaves left e s (RunLines said text) s' = left e s (RunLines said text) s'
  Leaves left e s StopService s' = s' ≡ s
  Leaves left e s ShowDump s' = s' ≡ s

  -- what an operation without a reply leaves. Where there was no memory to read it or to tell its reply, it was done or
  -- not, or it stopped as one does that runs out of memory.
  abbrev pub Stops : Machine S → (Failure → S → Operation → S → Type 0) → NoReply → S → Operation → S → Type 0
  Stops m left (Failed e) s o s' = Leaves left e s o s'
  Stops m left Untold s o s' = (s' ≡ s) ⊎ ((s' ≡ (step m s o).0) ⊎ Leaves left failure.Memory s o s')

-- what only reads
abbrev pub IsReading : Operation → Type 0
IsReading (RunLine line) = ⊥
IsReading (ImportFile loose kind document day rows) = ⊥
IsReading (ShowReport name number) = Unit {0}
IsReading (ShowTable name) = Unit {0}
IsReading (ShowBooks known) = Unit {0}
IsReading (ShowHistory from) = Unit {0}
IsReading (ImportSheet command document day file) = ⊥
IsReading (ShowList list word said) = Unit {0}
IsReading (RunLines said text) = ⊥
IsReading StopService = ⊥
IsReading ShowDump = Unit {0}

-- A service did an operation, and replied so or not at all: its state and its reply are the machine's, or what is left
-- where there is no reply; and what the service says besides of an operation holds.
module _ {D S : Type 0} (state : D → S) (m : Machine S) (left : Failure → S → Operation → S → Type 0)
    (relates : D → Operation → Option NoReply → D → Type 0) where
  abbrev pub Performs : D → Operation → Result ReplyView NoReply → D → Type 0
  Performs d o (Ok reply) d' = ((state d', reply) ≡ step m (state d) o) × relates d o None d'
  Performs d o (Err e) d' = Stops m left e (state d) o (state d') × relates d o (Some e) d'
