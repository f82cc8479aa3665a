-- What the target of a request names.
use Rattle.std.specs.Prelude.{◌+◌, ◌==◌, ◌&&◌, ◌||◌, ◌≡◌, nat_lt, nat_le, nat_eq, not, ℕ, Bool, true, false, List, []}
use Rattle.std.specs.Prelude.{◌∷◌, length, take, drop, Option, Some, None, is_none, if◌then◌else◌, codes, option_map}
use Rattle.std.specs.Borrow.{Bor}
use Rattle.std.specs.List.{list_all, slice_split, starts_with}
use Rattle.std.specs.Str.{bytes_eq}
use Rattle.std.specs.Str.Parse.{digits_value}
use Rattle.std.specs.Char.{is_ascii_digit, is_ascii_alphanumeric, is_ascii_lowercase}
use Rattle.std.specs.Str.Lossy.{utf8_lossy}
use Rattle.percent_encoding.specs.Percent.{percent_decode}
use Rattle.word_core.specs.Day.{CivilDay, day_of}
use Rattle.desk_http.specs.Sites.{PageView}
use Rattle.desk_http.specs.declared.query.LineWords.{LineWords}
use Rattle.desk_http.specs.declared.query.ListWords.{ListWords}
use Rattle.desk_http.specs.declared.query.Query.{Query}
use Rattle.desk_http.specs.declared.target.ImportKind.{ImportKind}
use Rattle.desk_http.specs.declared.target.ImportKind.TheVariants.{Receipts, Counts}
use Rattle.desk_http.specs.declared.target.ReportName.{ReportName}
use Rattle.desk_http.specs.declared.target.ReportName.TheVariants.{Ledger, Stock, Content, WhereUsed, Shortage, History}
use Rattle.desk_http.specs.declared.target.Target.{Target}
use Rattle.desk_http.specs.declared.target.Target.TheVariants as target

-- what a target names: the service that runs a line, an import of a document on a day, a report. With a page alone there
-- are, too: an import that is read loosely; what a page reads, which is a table as it is exported, the books whole, and the
-- history from a number on; the import of a document of a command; a list by its name, with the word that says what it is
-- of, if one stands there; the service that runs lines; the one that stops; and all tables as SQL
pub data Resource : Type 0 where
  Run : Resource
  Import : Bool → ImportKind → List ℕ → CivilDay → Resource
  Report : ReportName → ℕ → Resource
  Export : List ℕ → Resource
  Books : Resource
  HistoryFrom : ℕ → Resource
  Sheet : List ℕ → List ℕ → CivilDay → Resource
  Show : List ℕ → Option (List ℕ) → ListWords → Resource
  RunAll : LineWords → Resource
  Stop : Resource
  Dump : Resource

infixl 10 ◌then◌
abbrev pub ◌then◌ : {A B : Type 0} → Option A → (A → Option B) → Option B
None then f = None
(Some x) then f = f x

-- the value, where it passes the test
abbrev pub where_it : {A : Type 0} → (A → Bool) → A → Option A
where_it test x = if test x then Some x else None

-- 1 to 19 digits
abbrev pub number_of : List ℕ → Option ℕ
number_of bytes =
    if nat_lt 0 (length bytes) && nat_le (length bytes) 19 && list_all is_ascii_digit bytes
    then Some (digits_value 10 bytes) else None

-- where the first such byte stands
unfoldable pub place_in : ℕ → List ℕ → Option ℕ
place_in c [] = None
place_in c (b ∷ bs) = if b == c then Some 0 else option_map (λ n. n + 1) (place_in c bs)

-- the bytes before a place, and those behind it
abbrev pub cut_at : List ℕ → Option ℕ → Option (List ℕ × List ℕ)
cut_at bytes None = None
cut_at bytes (Some i) = Some (take i bytes, drop (i + 1) bytes)

-- the bytes before the first slash, and those behind it
abbrev pub cut : List ℕ → Option (List ℕ × List ℕ)
cut bytes = cut_at bytes (place_in 47 bytes)

abbrev pub kind_of : List ℕ → Option ImportKind
kind_of bytes =
    if bytes_eq bytes (codes "receipts") then Some Receipts
    else (if bytes_eq bytes (codes "counts") then Some Counts else None)

abbrev pub name_of : List ℕ → Option ReportName
name_of bytes =
    if bytes_eq bytes (codes "ledger") then Some Ledger
    else (if bytes_eq bytes (codes "stock") then Some Stock
    else (if bytes_eq bytes (codes "content") then Some Content
    else (if bytes_eq bytes (codes "where_used") then Some WhereUsed
    else (if bytes_eq bytes (codes "shortage") then Some Shortage
    else (if bytes_eq bytes (codes "history") then Some History else None)))))

-- a letter, a digit, or one of . _ -
abbrev pub is_document_byte : ℕ → Bool
is_document_byte b = is_ascii_alphanumeric b || b == 46 || b == 95 || b == 45

-- 1 to 32 such bytes
abbrev pub is_document : List ℕ → Bool
is_document bytes = nat_lt 0 (length bytes) && nat_le (length bytes) 32 && list_all is_document_byte bytes

-- what stands behind the kind of an import: a document and a day
abbrev pub file_resource : Bool → ImportKind → List ℕ → Option Resource
file_resource loose kind bytes =
    cut bytes then λ parts.
    where_it is_document parts.0 then λ document. day_of parts.1 then λ day. Some (Import loose kind document day)

abbrev pub import_resource : Bool → List ℕ → Option Resource
import_resource loose bytes = cut bytes then λ parts. kind_of parts.0 then λ kind. file_resource loose kind parts.1

abbrev pub report_resource : List ℕ → Option Resource
report_resource bytes =
    cut bytes then λ parts. name_of parts.0 then λ name. number_of parts.1 then λ number. Some (Report name number)

abbrev pub run_resource : List ℕ → Option Resource
run_resource [] = Some Run
run_resource (b ∷ bs) = None

-- a small letter, or a _
abbrev pub is_name_byte : ℕ → Bool
is_name_byte b = is_ascii_lowercase b || b == 95

-- one such byte or more, as the name of a table or of a command has
abbrev pub is_name : List ℕ → Bool
is_name bytes = nat_lt 0 (length bytes) && list_all is_name_byte bytes

abbrev pub export_resource : List ℕ → Option Resource
export_resource bytes = where_it is_name bytes then λ table. Some (Export table)

abbrev pub history_resource : List ℕ → Option Resource
history_resource bytes = number_of bytes then λ number. Some (HistoryFrom number)

abbrev pub history_at : List ℕ → Option Resource
history_at target = if starts_with nat_eq target (codes "/history/") then history_resource (drop 9 target) else None

abbrev pub part_at : List ℕ → Option Resource
part_at target =
    if starts_with nat_eq target (codes "/export/") then export_resource (drop 8 target) else history_at target

-- what a whole target names that a page reads
abbrev pub reading_of : List ℕ → Option Resource
reading_of target = if bytes_eq target (codes "/books") then Some Books else part_at target

-- what stands behind the name of a command: a document and a day
abbrev pub sheet_of : List ℕ → List ℕ → Option Resource
sheet_of command bytes =
    cut bytes then λ parts.
    where_it is_document parts.0 then λ document. day_of parts.1 then λ day. Some (Sheet command document day)

abbrev pub sheet_resource : List ℕ → Option Resource
sheet_resource bytes =
    cut bytes then λ parts. where_it is_name parts.0 then λ command. sheet_of command parts.1

abbrev pub sheet_at : List ℕ → Option Resource
sheet_at target = if starts_with nat_eq target (codes "/import/") then sheet_resource (drop 8 target) else None

-- ---- what a target says behind its first ?, in words with & between them

-- nothing is said
abbrev pub unsaid : Query
unsaid = record { csv = false; only_open = false; low = None; stop = false; check = false; loose = false }

-- what is said then, where it wasn't said before
abbrev pub once : Bool → Query → Option Query
once before said = if before then None else Some said

abbrev pub low_said : Query → List ℕ → Option Query
low_said said number =
    number_of number then λ amount. once (not (is_none said.low)) (record said { low = Some amount })

abbrev pub amount_said : Query → List ℕ → Option Query
amount_said said word = if starts_with nat_eq word (codes "low=") then low_said said (drop 4 word) else None

-- what is said with one word more: each word is one of these, and stands there once
abbrev pub word_said : Query → List ℕ → Option Query
word_said said word =
    if bytes_eq word (codes "csv") then once said.csv (record said { csv = true })
    else (if bytes_eq word (codes "open") then once said.only_open (record said { only_open = true })
    else (if bytes_eq word (codes "stop") then once said.stop (record said { stop = true })
    else (if bytes_eq word (codes "check") then once said.check (record said { check = true })
    else (if bytes_eq word (codes "loose") then once said.loose (record said { loose = true })
    else amount_said said word))))

abbrev pub words_said : Query → List (List ℕ) → Option Query
words_said said [] = Some said
words_said said (word ∷ words) = word_said said word then λ more. words_said more words

abbrev pub query_of : List ℕ → Option Query
query_of text = words_said unsaid (slice_split (λ b. b == 38) text)

-- what may be said of a list, of lines, and of what nothing is said of
abbrev pub list_words : Query → Option ListWords
list_words said =
    if said.stop || said.check || said.loose then None
    else Some (record { csv = said.csv; only_open = said.only_open; low = said.low })

abbrev pub line_words : Query → Option LineWords
line_words said =
    if said.csv || said.only_open || not (is_none said.low) || said.loose then None
    else Some (record { stop = said.stop; check = said.check })

abbrev pub is_unsaid : Query → Bool
is_unsaid said =
    not (said.csv || said.only_open || not (is_none said.low) || said.stop || said.check || said.loose)

-- that a file is read loosely is said, and nothing else
abbrev pub is_loose : Query → Bool
is_loose said =
    said.loose && not (said.csv || said.only_open || not (is_none said.low) || said.stop || said.check)

-- ---- what a path names of which something may be said

-- the text that a word stands for: in it %XX is the byte that it names, and what is no text is U+FFFD
abbrev pub meant : List ℕ → List ℕ
meant word = utf8_lossy (percent_decode word)

-- a small letter, or a -
abbrev pub is_list_byte : ℕ → Bool
is_list_byte b = is_ascii_lowercase b || b == 45

-- one such byte or more, as the name of a list has
abbrev pub is_list_name : List ℕ → Bool
is_list_name bytes = nat_lt 0 (length bytes) && list_all is_list_byte bytes

-- a word has one byte or more
abbrev pub worded_list : List ℕ → List ℕ → ListWords → Option Resource
worded_list name word said = if length word == 0 then None else Some (Show name (Some (meant word)) said)

abbrev pub list_by : List ℕ → Option (List ℕ × List ℕ) → ListWords → Option Resource
list_by path None said = where_it is_list_name path then λ name. Some (Show name None said)
list_by path (Some parts) said = where_it is_list_name parts.0 then λ name. worded_list name parts.1 said

-- what stands behind /show/: the name of a list, or that and a word
abbrev pub list_resource : List ℕ → ListWords → Option Resource
list_resource path said = list_by path (cut path) said

abbrev pub list_at : List ℕ → Query → Option Resource
list_at path said =
    if starts_with nat_eq path (codes "/show/") then (list_words said then λ words. list_resource (drop 6 path) words)
    else None

abbrev pub lines_at : List ℕ → Query → Option Resource
lines_at path said =
    if bytes_eq path (codes "/lines") then (line_words said then λ words. Some (RunAll words)) else None

abbrev pub loose_at : List ℕ → Query → Option Resource
loose_at path said =
    if is_loose said && starts_with nat_eq path (codes "/import/") then import_resource true (drop 8 path) else None

-- what a path names of which nothing may be said
abbrev pub alone_at : List ℕ → Option Resource
alone_at path =
    if bytes_eq path (codes "/stop") then Some Stop
    else (if bytes_eq path (codes "/dump") then Some Dump else None)

abbrev pub unsaid_at : List ℕ → Query → Option Resource
unsaid_at path said = if is_unsaid said then alone_at path else None

abbrev pub first_of : {A : Type 0} → Option A → Option A → Option A
first_of (Some x) other = Some x
first_of None other = other

abbrev pub path_resource : List ℕ → Query → Option Resource
path_resource path said =
    first_of (list_at path said) (first_of (lines_at path said) (first_of (loose_at path said) (unsaid_at path said)))

-- a path, and what is said of it
abbrev pub asked_by : List ℕ → Option (List ℕ × List ℕ) → Option (List ℕ × Query)
asked_by target None = Some (target, unsaid)
asked_by target (Some parts) = query_of parts.1 then λ said. Some (parts.0, said)

abbrev pub asked : List ℕ → Option (List ℕ × Query)
asked target = asked_by target (cut_at target (place_in 63 target))

abbrev pub asked_resource : List ℕ → Option Resource
asked_resource target = asked target then λ parts. path_resource parts.0 parts.1

-- ---- a whole target

-- what a whole target names, byte by byte: nothing is decoded, and nothing may stand behind it
abbrev pub resource_of : List ℕ → Option Resource
resource_of target =
    if starts_with nat_eq target (codes "/import/") then import_resource false (drop 8 target)
    else (if starts_with nat_eq target (codes "/report/") then report_resource (drop 8 target)
    else (if starts_with nat_eq target (codes "/run") then run_resource (drop 4 target) else None))

-- what a whole target names that is there with a page alone
abbrev pub page_resource_of : List ℕ → Option Resource
page_resource_of target = first_of (reading_of target) (first_of (sheet_at target) (asked_resource target))

-- what it names of a service with this page, or with none: with a page it is what it is without one, where it is anything
abbrev pub resource_at : Option PageView → List ℕ → Option Resource
resource_at None target = resource_of target
resource_at (Some page) target = first_of (resource_of target) (page_resource_of target)

-- the page, where the target names it and there is one
abbrev pub page_at : Option PageView → List ℕ → Option PageView
page_at page target = page then where_it (λ p. bytes_eq target (codes "/"))

-- ---- the same as code has it, with the document's name where it lies in the target

abbrev pub resource : Target → Resource
resource target.Run = Run
resource (target.Import loose kind document day) = Import loose kind document.now day
resource (target.Report name number) = Report name number
resource (target.Export table) = Export table.now
resource target.Books = Books
resource (target.HistoryFrom number) = HistoryFrom number
resource (target.Sheet command document day) = Sheet command.now document.now day
resource (target.Show list word said) = Show list.now (option_map (λ w. meant w.now) word) said
resource (target.RunAll said) = RunAll said
resource target.Stop = Stop
resource target.Dump = Dump

-- a document that is named has a name of its form
abbrev pub IsProper : Target → Type 0
IsProper target.Run = Unit {0}
IsProper (target.Import loose kind document day) = is_document document.now ≡ true
IsProper (target.Report name number) = Unit {0}
IsProper (target.Export table) = Unit {0}
IsProper target.Books = Unit {0}
IsProper (target.HistoryFrom number) = Unit {0}
IsProper (target.Sheet command document day) = is_document document.now ≡ true
IsProper (target.Show list word said) = Unit {0}
IsProper (target.RunAll said) = Unit {0}
IsProper target.Stop = Unit {0}
IsProper target.Dump = Unit {0}

abbrev pub some_resource : Option Target → Option Resource
some_resource None = None
some_resource (Some target) = Some (resource target)

abbrev pub some_parts : Option (Bor (List ℕ) × Bor (List ℕ)) → Option (List ℕ × List ℕ)
some_parts None = None
some_parts (Some parts) = Some (parts.0.now, parts.1.now)

abbrev pub some_text : Option (Bor (List ℕ)) → Option (List ℕ)
some_text None = None
some_text (Some text) = Some text.now

-- all tables are asked for
abbrev pub is_dump : Resource → Bool
is_dump Run = false
is_dump (Import loose kind document day) = false
is_dump (Report name number) = false
is_dump (Export table) = false
is_dump Books = false
is_dump (HistoryFrom number) = false
is_dump (Sheet command document day) = false
is_dump (Show list word said) = false
is_dump (RunAll said) = false
is_dump Stop = false
is_dump Dump = true
