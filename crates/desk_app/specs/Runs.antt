-- A run over the lines of a text.
use Rattle.std.specs.Prelude.{◌≡◌, ◌≤◌, ◌<◌, ℕ, length, ◌+◌, ◌==◌, ◌&&◌, Bool, true, false, List, [], ◌∷◌}
use Rattle.std.specs.Prelude.{◌++◌, if◌then◌else◌, ◌⊎◌, Option, Some, None, IsSome, Result, Ok, Err}
use Rattle.std.specs.Io.KnownBytes.{Appends, Keeps}
use Rattle.word_core.specs.declared.refusal.Refusal.TheVariants.{NoSuch}
use Rattle.desk_core.specs.Machine.{State, Outcome, step}
use Rattle.desk_core.specs.Naming.{Naming, naming_in}
use Rattle.desk_core.specs.declared.command.Request.{Request as Req}
use Rattle.report_core.specs.Lines.{Lines}
use Rattle.report_core.specs.Reports.{report_lines}
use Rattle.desk_wire.specs.declared.fault.What.{What}
use Rattle.desk_wire.specs.declared.read.Wish.{Wish}
use Rattle.desk_wire.specs.declared.read.Wish.TheVariants.{Request, Report}
use Rattle.desk_wire.specs.Reading as reading
use Rattle.desk_wire.specs.Writing.{answer_text, refused_text, fault_text, report_text}
use Rattle.sqlite.specs.Tree.{Trees}
use Rattle.desk_store.specs.StateTables.{TablesAre}
use Rattle.desk_core.specs.declared.end.Stop.{Stop}
use Rattle.desk_core.specs.declared.end.Stop.TheVariants.{ReadFailed, WriteFailed, Memory, Store}
use Rattle.desk_app.specs.Journal.{journalled}
use Rattle.desk_app.specs.declared.options.LineOptions.{LineOptions}
use Rattle.desk_app.specs.declared.options.RunOptions.{RunOptions}

-- ---- one line: the state after it, the text with LF that is answered, and whether nothing was
-- refused or faulty

abbrev pub RunStep : Type 0
RunStep = State × List ℕ × Bool

abbrev pub by_outcome : State × Outcome → RunStep
by_outcome (s, Ok answer) = (s, answer_text answer, true)
by_outcome (s, Err refusal) = (s, refused_text refusal, false)

-- a report is of the state so far
abbrev pub by_report : State → Option Lines → RunStep
by_report s None = (s, refused_text NoSuch, false)
by_report s (Some lines) = (s, report_text lines, true)

-- a request gets a key where the journal is kept and it has none
abbrev pub by_wish : Bool → State → ℕ → Result Wish What → RunStep
by_wish journal s number (Ok (Request request)) = by_outcome (step s (journalled journal s request))
by_wish journal s number (Ok (Report name of)) = by_report s (report_lines name of s)
by_wish journal s number (Err what) = (s, fault_text (record { line = number; what = what }), false)

-- nothing, or one CR
abbrev pub is_blank : List ℕ → Bool
is_blank [] = true
is_blank (b ∷ []) = b == 13
is_blank (b ∷ c ∷ bs) = false

-- where rows may be named, they are called what they are called in this state
abbrev pub naming : Bool → State → Option Naming
naming names s = if names then Some (naming_in s) else None

-- a blank line gives nothing; names are looked up as they are before the line
unfoldable pub line_step : LineOptions → State → ℕ → List ℕ → RunStep
line_step options s number line =
    if is_blank line then (s, [], true) else by_wish options.journal s number (reading.line (naming options.names s) line)

abbrev pub line_after : LineOptions → State → ℕ → List ℕ → State
line_after options s number line = (line_step options s number line).0

abbrev pub line_out : LineOptions → State → ℕ → List ℕ → List ℕ
line_out options s number line = (line_step options s number line).1

abbrev pub is_fine : LineOptions → State → ℕ → List ℕ → Bool
is_fine options s number line = (line_step options s number line).2

-- ---- many lines, of which the first has the number

abbrev pub onto_first : ℕ → List (List ℕ) → List (List ℕ)
onto_first b [] = (b ∷ []) ∷ []
onto_first b (l ∷ ls) = (b ∷ l) ∷ ls

-- the text cut at LF; the last line needs none
abbrev pub lines_of : List ℕ → List (List ℕ)
lines_of [] = []
lines_of (b ∷ bs) = if b == 10 then [] ∷ lines_of bs else onto_first b (lines_of bs)

abbrev pub run_after : LineOptions → State → ℕ → List (List ℕ) → State
run_after options s number [] = s
run_after options s number (l ∷ ls) = run_after options (line_after options s number l) (number + 1) ls

abbrev pub run_out : LineOptions → State → ℕ → List (List ℕ) → List ℕ
run_out options s number [] = []
run_out options s number (l ∷ ls) = line_out options s number l ++ run_out options (line_after options s number l)
    (number + 1) ls

abbrev pub all_fine : LineOptions → State → ℕ → List (List ℕ) → Bool
all_fine options s number [] = true
all_fine options s number (l ∷ ls) = is_fine options s number l && all_fine options (line_after options s number l)
    (number + 1) ls

-- ---- the lines that a run takes

-- the lines up to the first that is refused or faulty, with that one
abbrev pub up_to_first : LineOptions → State → ℕ → List (List ℕ) → List (List ℕ)
up_to_first options s number [] = []
up_to_first options s number (l ∷ ls) =
    if is_fine options s number l then l ∷ up_to_first options (line_after options s number l) (number + 1) ls else l ∷ []

-- the lines that a run takes of these: all, or, where it stops there, those up to the first that is refused or faulty
abbrev pub taken : RunOptions → State → List (List ℕ) → List (List ℕ)
taken options s lines = if options.stop then up_to_first options.lines s 1 lines else lines

-- a run takes these lines all: where it stops at the first that is refused or faulty, none but the last is
abbrev pub AreTaken : RunOptions → State → List (List ℕ) → Type 0
AreTaken options s lines = taken options s lines ≡ lines

-- ---- the lines that are kept together

-- Lines, of which the first has the number, are a group: the answers of all but the last have fewer than 65,536 bytes
-- together, for a group ends once so many wait.
abbrev pub IsGroup : LineOptions → State → ℕ → List (List ℕ) → Type 0
IsGroup options s number group =
    (before : List (List ℕ)) (last : List ℕ) → group ≡ before ++ last ∷ []
    → length (run_out options s number before) < 65536

-- ---- how a run ends

-- these lines were run, and all their answers written
pub record RanLines (options : LineOptions) (lines : List (List ℕ)) (w w' : Option (List ℕ)) (s s' : State)
    (all : Bool) : Type 0 where
  pub state : s' ≡ run_after options s 1 lines
  pub written : Appends w w' (run_out options s 1 lines)
  pub fine : all ≡ all_fine options s 1 lines

-- all lines that the run takes of the text were; of unknown bytes, those of some lines
abbrev pub Finished : RunOptions → Option (List ℕ) → Option (List ℕ) → Option (List ℕ) → State → State → Bool
    → Type 0
Finished options None w w' s s' all =
    (lines : List (List ℕ)) × RanLines options.lines (taken options s lines) w w' s s' all
Finished options (Some text) w w' s s' all = RanLines options.lines (taken options s (lines_of text)) w w' s s' all

-- the lines of a text begin with these; those of unknown bytes may be any
abbrev pub BeginWith : Option (List ℕ) → List (List ℕ) → Type 0
BeginWith None lines = Unit {0}
BeginWith (Some text) lines = (rest : List (List ℕ)) × (lines_of text ≡ lines ++ rest)

-- the first of the lines were run, and their answers written whole; the others were not run
pub record StoppedBetween (options : RunOptions) (text w w' : Option (List ℕ)) (s s' : State) : Type 0 where
  pub done : List (List ℕ)
  pub first : BeginWith text done
  pub all_taken : AreTaken options s done
  pub state : s' ≡ run_after options.lines s 1 done
  pub written : Appends w w' (run_out options.lines s 1 done)

-- Of the lines that were run the last were one group, of whose answers a front is written. There are such answers. The
-- other lines have theirs whole.
pub record StoppedWriting (options : RunOptions) (text w w' : Option (List ℕ)) (s s' : State) : Type 0 where
  pub told : List (List ℕ)
  pub group : List (List ℕ)
  pub front : List ℕ
  pub more : List ℕ
  pub first : BeginWith text (told ++ group)
  pub all_taken : AreTaken options s (told ++ group)
  pub size : IsGroup options.lines (run_after options.lines s 1 told) (1 + length told) group
  pub state : s' ≡ run_after options.lines s 1 (told ++ group)
  pub answers : run_out options.lines (run_after options.lines s 1 told) (1 + length told) group ≡ front ++ more
  pub some : 0 < length (front ++ more)
  pub written : Appends w w' (run_out options.lines s 1 told ++ front)

-- of the lines that were run the last may have nothing of its answer written, the others have theirs
-- whole
pub record StoppedForMemory (options : RunOptions) (text w w' : Option (List ℕ)) (s s' : State) : Type 0 where
  pub told : List (List ℕ)
  pub untold : List (List ℕ)
  pub first : BeginWith text (told ++ untold)
  pub all_taken : AreTaken options s (told ++ untold)
  pub one : length untold ≤ 1
  pub state : s' ≡ run_after options.lines s 1 (told ++ untold)
  pub written : Appends w w' (run_out options.lines s 1 told)

-- The database failed in a group, or as it was committed, and the books are closed. The lines before the group have
-- their answers written whole, and those of the group nothing of theirs. A crash leaves the tables before the group, or,
-- where the commit failed, those after it.
pub record StoppedInGroup (options : RunOptions) (text w w' : Option (List ℕ)) (s s' : State)
    (leaves : Trees → Type 0) : Type 0 where
  pub told : List (List ℕ)
  pub group : List (List ℕ)
  pub first : BeginWith text (told ++ group)
  pub all_taken : AreTaken options s (told ++ group)
  pub size : IsGroup options.lines (run_after options.lines s 1 told) (1 + length told) group
  pub state : s' ≡ run_after options.lines s 1 (told ++ group)
  pub written : Appends w w' (run_out options.lines s 1 told)
  pub left : (trees : Trees) → leaves trees
      → TablesAre (run_after options.lines s 1 told) trees ⊎ TablesAre (run_after options.lines s 1 (told ++ group)) trees

-- some of the lines were run, by what it was that failed; these tables a crash may leave of the books
abbrev pub Stopped : RunOptions → Stop → Option (List ℕ) → Option (List ℕ) → Option (List ℕ) → State → State
    → (Trees → Type 0) → Type 0
Stopped options ReadFailed text w w' s s' leaves = StoppedBetween options text w w' s s'
Stopped options WriteFailed text w w' s s' leaves = StoppedWriting options text w w' s s'
Stopped options Memory text w w' s s' leaves = StoppedForMemory options text w w' s s'
Stopped options Store text w w' s s' leaves = StoppedInGroup options text w w' s s' leaves

-- a request that the books did not answer, or whose answer was not told: where memory ran out it was run or not; where
-- the database failed it was not
abbrev pub CutRequest : Stop → State → State → Req → Type 0
CutRequest Memory s s' r = (s' ≡ s) ⊎ (s' ≡ (step s r).0)
CutRequest Store s s' r = s' ≡ s
CutRequest _ s s' r = ⊥

-- the same of a line
abbrev pub CutLine : LineOptions → Stop → State → State → ℕ → List ℕ → Type 0
CutLine options Memory s s' number line = (s' ≡ s) ⊎ (s' ≡ line_after options s number line)
CutLine options Store s s' number line = s' ≡ s
CutLine options _ s s' number line = ⊥

-- neither the reader nor the writer stops it
abbrev pub IsOfBooks : Stop → Type 0
IsOfBooks Memory = Unit {0}
IsOfBooks Store = Unit {0}
IsOfBooks _ = ⊥

-- it is the reader that stops it, or memory that runs out
abbrev pub IsOfReading : Stop → Type 0
IsOfReading ReadFailed = Unit {0}
IsOfReading Memory = Unit {0}
IsOfReading _ = ⊥

-- books that weren't closed aren't, unless the database failed; where it failed, they are closed
abbrev pub StaysOpen : {F X : Type 0} → Option F → Option F → Result X Stop → Type 0
StaysOpen old new (Ok x) = old ≡ None → new ≡ None
StaysOpen old new (Err ReadFailed) = old ≡ None → new ≡ None
StaysOpen old new (Err WriteFailed) = old ≡ None → new ≡ None
StaysOpen old new (Err Memory) = old ≡ None → new ≡ None
StaysOpen old new (Err Store) = IsSome new

-- the books were asked: they were open and are, unless the database failed, which closes them
abbrev pub EndsOpen : {F X : Type 0} → Option F → Option F → Result X Stop → Type 0
EndsOpen old new (Ok x) = (old ≡ None) × (new ≡ None)
EndsOpen old new (Err ReadFailed) = (old ≡ None) × (new ≡ None)
EndsOpen old new (Err WriteFailed) = (old ≡ None) × (new ≡ None)
EndsOpen old new (Err Memory) = (old ≡ None) × (new ≡ None)
EndsOpen old new (Err Store) = IsSome new

-- what waits to be written when a group ends: all of it is, or a front where the writer failed, so there was some, or
-- nothing where the database did
abbrev pub CutSettling : Stop → Option (List ℕ) → Option (List ℕ) → List ℕ → Type 0
CutSettling WriteFailed w w' text =
    (front : List ℕ) × (more : List ℕ) × (text ≡ front ++ more) × (0 < length text) × Appends w w' front
CutSettling Store w w' text = Keeps w w'
CutSettling _ w w' text = ⊥

-- it is the writer that stops it, or the database
abbrev pub IsOfSettling : Stop → Type 0
IsOfSettling WriteFailed = Unit {0}
IsOfSettling Store = Unit {0}
IsOfSettling _ = ⊥

-- ---- lines that were run, of which the last wait for the end of their group

-- the first lines have their answers written, and those of the group wait with theirs; one line more may have been run,
-- which has none and is of the group; these tables a crash may leave, and they are those before the group
pub record Halting (options : RunOptions) (text w w' : Option (List ℕ)) (s s' : State) (waits : List ℕ)
    (leaves : Trees → Type 0) : Type 0 where
  pub told : List (List ℕ)
  pub group : List (List ℕ)
  pub untold : List (List ℕ)
  pub first : BeginWith text ((told ++ group) ++ untold)
  pub all_taken : AreTaken options s ((told ++ group) ++ untold)
  pub one : length untold ≤ 1
  pub size : IsGroup options.lines (run_after options.lines s 1 told) (1 + length told) (group ++ untold)
  pub state : s' ≡ run_after options.lines s 1 ((told ++ group) ++ untold)
  pub written : Appends w w' (run_out options.lines s 1 told)
  pub answers : waits ≡ run_out options.lines (run_after options.lines s 1 told) (1 + length told) group
  pub left : (trees : Trees) → leaves trees → TablesAre (run_after options.lines s 1 told) trees

-- the group ends behind its last answer
abbrev pub HaltsWhole : RunOptions → Option (List ℕ) → Option (List ℕ) → Option (List ℕ) → State → State → List ℕ
    → (Trees → Type 0) → Type 0
HaltsWhole options text w w' s s' waits leaves =
    (h : Halting options text w w' s s' waits leaves) × (h.untold ≡ [])

-- these are all lines that the run takes of the text
abbrev pub AreAll : RunOptions → State → Option (List ℕ) → List (List ℕ) → Type 0
AreAll options s None lines = Unit {0}
AreAll options s (Some text) lines = taken options s (lines_of text) ≡ lines

-- all lines that the run takes were run, and the last of them wait
abbrev pub Gathered : RunOptions → Option (List ℕ) → Option (List ℕ) → Option (List ℕ) → State → State → Bool
    → List ℕ → (Trees → Type 0) → Type 0
Gathered options text w w' s s' all waits leaves =
    (h : Halting options text w w' s s' waits leaves) × (h.untold ≡ [])
    × AreAll options s text (h.told ++ h.group) × (all ≡ all_fine options.lines s 1 (h.told ++ h.group))

-- the lines stop before the last group is ended, or as a group was ended
abbrev pub Halts : RunOptions → Stop → Option (List ℕ) → Option (List ℕ) → Option (List ℕ) → State → State
    → List ℕ → (Trees → Type 0) → Type 0
Halts options ReadFailed text w w' s s' waits leaves = HaltsWhole options text w w' s s' waits leaves
Halts options Memory text w w' s s' waits leaves = Halting options text w w' s s' waits leaves
Halts options WriteFailed text w w' s s' waits leaves = StoppedWriting options text w w' s s'
Halts options Store text w w' s s' waits leaves = StoppedInGroup options text w w' s s' leaves
