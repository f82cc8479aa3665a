-- Files of a command that are sent: what is replied, and what is left where nothing is.
use Rattle.std.proofs.Common.{◌≡◌, ◌⊎◌, inl, inr, ◌++◌, ℕ, List, [], Bool, true, false, cond, refl}
use Rattle.std.specs.Prelude.{Option, Some, None, Result, Ok, Err}
use Rattle.sqlite.specs.Tree.{Trees}
use Rattle.word_core.specs.Day.{CivilDay}
use Rattle.word_core.specs.Forms.{Form}
use Rattle.desk_core.specs.Machine.{State}
use Rattle.desk_wire.specs.declared.fault.WireFault.{WireFault}
use Rattle.desk_wire.specs.SheetForms.{sheet_form}
use Rattle.desk_core.specs.declared.end.Stop.{Stop}
use Rattle.desk_core.specs.declared.end.Stop.TheVariants.{ReadFailed, WriteFailed, Memory, Store}
use Rattle.desk_http.specs.Services.{ReplyView}
use Rattle.desk_http.specs.declared.query.LineWords.{LineWords}
use Rattle.desk_http.specs.declared.service.Outcome.{Outcome}
use Rattle.desk_http.specs.declared.service.Outcome.TheVariants.{AnsweredLines, Reported}
use Rattle.desk_app.specs.Checked.{are_readable, faults_out}
use Rattle.desk_app.specs.Runs.{lines_of, run_after, run_out, taken, AreTaken, Stopped, StoppedInGroup}
use Rattle.desk_app.specs.Services.{import_sheet, run_lines}
use Rattle.desk_app.specs.SheetReplies.{by_form, by_lines, by_run, by_said, by_text, faults_reply, lines_to_run, text_of}
use Rattle.desk_app.specs.SheetReplies.{said_run, AreLeftByLines, RanFirst}
use Rattle.desk_app.specs.SheetRuns.{sheet_run}
use Rattle.desk_app.specs.declared.options.LineOptions.{LineOptions}
use Rattle.desk_app.specs.declared.options.RunOptions.{RunOptions}
use Rattle.desk_app.proofs.Stopping.{none_taken}

-- ---- lines that stopped

pub none_ran : (options : RunOptions) (lines : List (List ℕ)) (s s' : State) → s' ≡ s
    → RanFirst options lines s s'
none_ran options lines s s' is =
    record { done = []; rest = lines; split = refl; all_taken = none_taken options s; state = is }

-- whatever stops lines, the first of them were run
pub ran_first : (options : RunOptions) (why : Stop) (text : List ℕ) (w w' : Option (List ℕ)) (s s' : State)
    (leaves : Trees → Type 0) → Stopped options why (Some text) w w' s s' leaves
    → RanFirst options (lines_of text) s s'
ran_first options ReadFailed text w w' s s' leaves h =
    record { done = h.done; rest = h.first.0; split = h.first.1; all_taken = h.all_taken; state = h.state }
ran_first options WriteFailed text w w' s s' leaves h =
    record { done = h.told ++ h.group; rest = h.first.0; split = h.first.1; all_taken = h.all_taken; state = h.state }
ran_first options Memory text w w' s s' leaves h =
    record { done = h.told ++ h.untold; rest = h.first.0; split = h.first.1; all_taken = h.all_taken; state = h.state }
ran_first options Store text w w' s s' leaves h =
    record { done = h.told ++ h.group; rest = h.first.0; split = h.first.1; all_taken = h.all_taken; state = h.state }

-- what a crash leaves of them where the database failed
pub left_by_group : (options : RunOptions) (text : List ℕ) (w w' : Option (List ℕ)) (s s' : State) (leaves : Trees → Type 0) (trees : Trees)
    → StoppedInGroup options (Some text) w w' s s' leaves → leaves trees
    → AreLeftByLines options.lines (lines_of text) s s' trees
left_by_group options text w w' s s' leaves trees h there = record {
  told = h.told;
  group = h.group;
  rest = h.first.0;
  split = h.first.1;
  size = h.size;
  state = h.state;
  tables = h.left trees there;
}

-- ---- lines that have no fault

pub answers_told : (options : RunOptions) (kind : Outcome) (s s' : State) (lines : List (List ℕ)) (out : List ℕ)
    → s' ≡ run_after options.lines s 1 (taken options s lines) → out ≡ run_out options.lines s 1 (taken options s lines)
    → (s', (kind, out)) ≡ by_run options kind s lines
answers_told options kind s s' lines out after told = λ i. (after i, (kind, told i))

-- ---- what is told is taken, and else nothing is changed

abbrev pub TellsOrKeeps : Outcome → State → State × ReplyView → Type 0
TellsOrKeeps kind s done = (done.1.0 ≡ kind) ⊎ (done.0 ≡ s)

lines_tell : (options : RunOptions) (kind : Outcome) (s : State) (lines : List (List ℕ)) (c : Bool)
    → TellsOrKeeps kind s (cond c (by_run options kind s lines) (s, faults_reply (faults_out options.lines.names 1 lines)))
lines_tell options kind s lines true = inl refl
lines_tell options kind s lines false = inr refl

text_tells : (s : State) (reading : Result (List ℕ) WireFault) → TellsOrKeeps Reported s (by_text s reading)
text_tells s (Ok text) = lines_tell (sheet_run false) Reported s (lines_of text) (are_readable true (lines_of text))
text_tells s (Err fault) = inr refl

said_tells : (options : RunOptions) (s : State) (lines : List (List ℕ)) (check : Bool)
    → TellsOrKeeps AnsweredLines s
    (cond check (by_lines options AnsweredLines s lines) (by_run options AnsweredLines s lines))
said_tells options s lines true = lines_tell options AnsweredLines s lines (are_readable options.lines.names lines)
said_tells options s lines false = inl refl

pub lines_told : (options : LineOptions) (s : State) (said : LineWords) (text : List ℕ)
    → TellsOrKeeps AnsweredLines s (run_lines options s said text)
unfolding run_lines
lines_told options s said text = said_tells (said_run options said) s (lines_of text) said.check

form_tells : (s : State) (form : Option Form) (document : List ℕ) (day : CivilDay) (file : List ℕ)
    → TellsOrKeeps Reported s (by_form s form document day file)
form_tells s None document day file = inr refl
form_tells s (Some form) document day file = text_tells s (text_of form document day file)

pub sheet_told : (s : State) (command document : List ℕ) (day : CivilDay) (file : List ℕ)
    → TellsOrKeeps Reported s (import_sheet s command document day file)
unfolding import_sheet
sheet_told s command document day file = form_tells s (sheet_form command) document day file
