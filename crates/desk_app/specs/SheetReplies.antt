-- What is replied to lines and to a file of a command, and what is left of them where there is no reply.
use Rattle.std.specs.Prelude.{◌≡◌, ◌⊎◌, ◌+◌, ◌++◌, ◌==◌, nat_le, ℕ, Bool, List, [], length, count_by, false, Option, Some, None}
use Rattle.std.specs.Prelude.{Result, Ok, Err, if◌then◌else◌}
use Rattle.sqlite.specs.Tree.{Trees}
use Rattle.word_core.specs.Day.{CivilDay}
use Rattle.word_core.specs.Forms.{Form}
use Rattle.desk_core.specs.Machine.{State}
use Rattle.desk_store.specs.StateTables.{TablesAre}
use Rattle.desk_wire.specs.declared.fault.WireFault.{WireFault}
use Rattle.desk_wire.specs.Sheets.{sheet_text}
use Rattle.desk_wire.specs.Writing.{fault_text}
use Rattle.desk_http.specs.Services.{ReplyView}
use Rattle.desk_http.specs.declared.query.LineWords.{LineWords}
use Rattle.desk_http.specs.declared.service.Outcome as kind
use Rattle.desk_http.specs.declared.service.Outcome.TheVariants.{AnsweredLines, Faulty, FaultyLines, Reported, Unknown}
use Rattle.desk_app.specs.Checked.{are_readable, faults_out}
use Rattle.desk_app.specs.Runs.{lines_of, run_after, run_out, taken, AreTaken, IsGroup}
use Rattle.desk_app.specs.SheetRuns.{sheet_options, sheet_run}
use Rattle.desk_app.specs.declared.options.LineOptions.{LineOptions}
use Rattle.desk_app.specs.declared.options.RunOptions.{RunOptions}

-- ---- the lines of a text, as they are taken, of which the first that is refused or faulty may be the last

-- one fault as such, and several as lines
abbrev pub faults_reply : List ℕ → ReplyView
faults_reply faults = (if nat_le (count_by (λ b. b == 10) faults) 1 then Faulty else FaultyLines, faults)

-- the answers of all that are run, though some are refused, as a reply of that kind
abbrev pub by_run : RunOptions → kind.Outcome → State → List (List ℕ) → State × ReplyView
by_run options told s lines =
    (run_after options.lines s 1 (taken options s lines), (told, run_out options.lines s 1 (taken options s lines)))

-- where one has a fault that shows before any is run, none is
abbrev pub by_lines : RunOptions → kind.Outcome → State → List (List ℕ) → State × ReplyView
by_lines options told s lines =
    if are_readable options.lines.names lines then by_run options told s lines
    else (s, faults_reply (faults_out options.lines.names 1 lines))

-- those that may be run: all, or none
abbrev pub lines_to_run : LineOptions → List (List ℕ) → List (List ℕ)
lines_to_run options lines = if are_readable options.names lines then lines else []

-- ---- lines that are sent

-- as they are taken here, up to the first that is refused or faulty where it is said so
abbrev pub said_run : LineOptions → LineWords → RunOptions
said_run options said = record { lines = options; stop = said.stop }

-- they are looked at before, or aren't
abbrev pub by_said : LineOptions → LineWords → State → List (List ℕ) → State × ReplyView
by_said options said s lines =
    if said.check then by_lines (said_run options said) AnsweredLines s lines
    else by_run (said_run options said) AnsweredLines s lines

abbrev pub lines_by_said : LineOptions → LineWords → List (List ℕ) → List (List ℕ)
lines_by_said options said lines = if said.check then lines_to_run options lines else lines

-- ---- the text that a file is, or its fault: rows are said by what they are called

abbrev pub by_text : State → Result (List ℕ) WireFault → State × ReplyView
by_text s (Ok text) = by_lines (sheet_run false) Reported s (lines_of text)
by_text s (Err fault) = (s, (Faulty, fault_text fault))

abbrev pub text_lines : Result (List ℕ) WireFault → List (List ℕ)
text_lines (Ok text) = lines_to_run sheet_options (lines_of text)
text_lines (Err fault) = []

-- ---- a file of a command, where there is one of the name

-- nothing is said of members
abbrev pub text_of : Form → List ℕ → CivilDay → List ℕ → Result (List ℕ) WireFault
text_of form document day file = sheet_text (record { form = form; said = []; document = document; day = day }) file

abbrev pub by_form : State → Option Form → List ℕ → CivilDay → List ℕ → State × ReplyView
by_form s None document day file = (s, (Unknown, []))
by_form s (Some form) document day file = by_text s (text_of form document day file)

abbrev pub form_lines : Option Form → List ℕ → CivilDay → List ℕ → List (List ℕ)
form_lines None document day file = []
form_lines (Some form) document day file = text_lines (text_of form document day file)

-- ---- where there is no reply

-- the first of the lines were run, of those that are taken, and no other
pub record RanFirst (options : RunOptions) (lines : List (List ℕ)) (s s' : State) : Type 0 where
  pub done : List (List ℕ)
  pub rest : List (List ℕ)
  pub split : lines ≡ done ++ rest
  pub all_taken : AreTaken options s done
  pub state : s' ≡ run_after options.lines s 1 done

-- The database failed in a group of the lines, or as it was committed. A crash leaves the tables before the group, or,
-- where the commit failed, those after it.
pub record AreLeftByLines (options : LineOptions) (lines : List (List ℕ)) (s s' : State) (trees : Trees) : Type 0 where
  pub told : List (List ℕ)
  pub group : List (List ℕ)
  pub rest : List (List ℕ)
  pub split : lines ≡ (told ++ group) ++ rest
  pub size : IsGroup options (run_after options s 1 told) (1 + length told) group
  pub state : s' ≡ run_after options s 1 (told ++ group)
  pub tables : TablesAre (run_after options s 1 told) trees ⊎ TablesAre (run_after options s 1 (told ++ group)) trees
