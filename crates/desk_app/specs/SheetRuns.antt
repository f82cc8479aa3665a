-- The import of a file of any command: it is a text of lines, or it has a fault.
use Rattle.std.specs.Prelude.{◌≡◌, ◌≢◌, ◌⊎◌, ℕ, List, Bool, true, false, Option, Some, None, IsSome, Result, Ok, Err}
use Rattle.std.specs.Io.KnownBytes.{Appends, Keeps}
use Rattle.sqlite.specs.Tree.{Trees}
use Rattle.desk_core.specs.Machine.{State}
use Rattle.desk_store.specs.Exports.{AppendsFront}
use Rattle.desk_store.specs.StateTables.{TablesAre}
use Rattle.desk_wire.specs.Writing.{fault_text}
use Rattle.desk_wire.specs.declared.fault.WireFault.{WireFault}
use Rattle.desk_core.specs.declared.end.RunEnd.{RunEnd}
use Rattle.desk_core.specs.declared.end.RunEnd.TheVariants.{Done, ReadFailed, WriteFailed, Memory, Store}
use Rattle.desk_core.specs.declared.end.Stop.{Stop}
use Rattle.desk_core.specs.Ends.{end_of}
use Rattle.desk_app.specs.Answered.{AnsweredIsKept}
use Rattle.desk_app.specs.Checked.{are_readable, faults_out, TellsFaults}
use Rattle.desk_app.specs.declared.options.LineOptions.{LineOptions}
use Rattle.desk_app.specs.declared.options.RunOptions.{RunOptions}
use Rattle.desk_app.specs.Runs.{lines_of, Finished, Stopped}

-- All lines of the text, which may be long, were looked at, and the run ended so: what `run_text` promises, in one.
pub record RunsText {F : Type 0} (options : RunOptions) (text : List ℕ) (w w' : Option (List ℕ)) (old new : Option F)
    (leaves : Trees → Type 0) (s s' : State) (end : RunEnd) : Type 0 where
  pub faulty : are_readable options.lines.names (lines_of text) ≡ false
      → (s' ≡ s) × (new ≡ old) × TellsFaults (faults_out options.lines.names 1 (lines_of text)) w w' end
  pub done : are_readable options.lines.names (lines_of text) ≡ true → (all : Bool) → end ≡ Done all
      → Finished options (Some text) w w' s s' all
  pub stopped : are_readable options.lines.names (lines_of text) ≡ true → (why : Stop) → end ≡ end_of why
      → Stopped options why (Some text) w w' s s' (λ trees. (old ≡ None) × leaves trees)
  pub were_open : end ≢ Store → (old ≡ None) × (new ≡ None)
  pub closed : end ≡ Store → IsSome new
  pub left : end ≢ Store → (trees : Trees) → leaves trees → TablesAre s' trees
  pub answered : are_readable options.lines.names (lines_of text) ≡ true
      → AnsweredIsKept options (Some text) w w' s (λ trees. (old ≡ None) × leaves trees)

-- nothing was done, and nothing told, since memory ran out
pub record Unmade {F : Type 0} (w w' : Option (List ℕ)) (old new : Option F) (s s' : State) (end : RunEnd) : Type 0 where
  pub why : end ≡ Memory
  pub same : s' ≡ s
  pub still : new ≡ old
  pub untold : Keeps w w'

-- rows may be named in the lines, and each has a key
abbrev pub sheet_options : LineOptions
sheet_options = record { names = true; journal = false }

-- and the first that is refused or faulty is the last, or isn't
abbrev pub sheet_run : Bool → RunOptions
sheet_run stop = record { lines = sheet_options; stop = stop }

-- the text was run, or the fault was told and nothing was done; unless memory ran out before
abbrev pub RunsSheet : {F : Type 0} → Bool → Result (List ℕ) WireFault → Option (List ℕ) → Option (List ℕ) → Option F
    → Option F → (Trees → Type 0) → State → State → RunEnd → Type 0
RunsSheet stop (Ok text) w w' old new leaves s s' end =
    Unmade w w' old new s s' end ⊎ RunsText (sheet_run stop) text w w' old new leaves s s' end
RunsSheet stop (Err fault) w w' old new leaves s s' end =
    (s' ≡ s) × (new ≡ old) × TellsFaults (fault_text fault) w w' end

-- the text was printed, or the fault told; or a front of it, where the writer failed
abbrev pub PrintsText : Bool → List ℕ → Option (List ℕ) → Option (List ℕ) → RunEnd → Type 0
PrintsText fine text w w' (Done all) = (all ≡ fine) × Appends w w' text
PrintsText fine text w w' WriteFailed = AppendsFront w w' text
PrintsText fine text w w' Memory = Keeps w w'
PrintsText fine text w w' ReadFailed = ⊥
PrintsText fine text w w' Store = ⊥

abbrev pub PrintsSheet : Result (List ℕ) WireFault → Option (List ℕ) → Option (List ℕ) → RunEnd → Type 0
PrintsSheet (Ok text) w w' end = PrintsText true text w w' end
PrintsSheet (Err fault) w w' end = PrintsText false (fault_text fault) w w' end
