-- A run over the standard input that looks at all lines before the first is run.
use Rattle.std.specs.Prelude.{◌≡◌, ◌≢◌, ◌⊎◌, ℕ, List, Bool, true, false, Option, Some, None, IsSome}
use Rattle.sqlite.specs.Tree.{Trees}
use Rattle.desk_core.specs.Machine.{State}
use Rattle.desk_store.specs.StateTables.{TablesAre}
use Rattle.desk_core.specs.declared.end.RunEnd.{RunEnd}
use Rattle.desk_core.specs.declared.end.RunEnd.TheVariants.{Done, Store}
use Rattle.desk_core.specs.declared.end.Stop.{Stop}
use Rattle.desk_app.specs.Checked.{is_readable, text_faults, TellsFaults}
use Rattle.desk_core.specs.Ends.{end_of}
use Rattle.desk_app.specs.declared.options.RunOptions.{RunOptions}
use Rattle.desk_app.specs.Runs.{Finished, Stopped}
use Rattle.invdesk.specs.Rows.{Unread}

-- All lines of the text were looked at, and the run ended so. Where one is faulty, or the text is too long, that was told
-- and nothing was run; else the lines were run on books that were in the state s and are in s'. What was written is known
-- to no clause. The books had been closed by the one fault, if by any, and are by the other; these tables a crash may
-- leave of them now.
pub record ChecksLines {F : Type 0} (options : RunOptions) (text : List ℕ) (old new : Option F) (leaves : Trees → Type 0)
    (s s' : State) (end : RunEnd) : Type 0 where
  pub faulty : is_readable options.lines.names text ≡ false
      → (s' ≡ s) × (new ≡ old) × TellsFaults (text_faults options.lines.names text) None None end
  pub done : is_readable options.lines.names text ≡ true → (all : Bool) → end ≡ Done all
      → Finished options (Some text) None None s s' all
  pub stopped : is_readable options.lines.names text ≡ true → (why : Stop) → end ≡ end_of why
      → Stopped options why (Some text) None None s s' (λ trees. (old ≡ None) × leaves trees)
  pub were_open : end ≢ Store → (old ≡ None) × (new ≡ None)
  pub closed : end ≡ Store → IsSome new
  pub left : end ≢ Store → (trees : Trees) → leaves trees → TablesAre s' trees

-- The standard input was read, as far as shows whether it is too long: which bytes came is known to no clause, so some
-- bytes. Or it couldn't be read, and nothing was done.
abbrev pub ChecksInput : {F : Type 0} → RunOptions → Option F → Option F → (Trees → Type 0) → State → State → RunEnd
    → Type 0
ChecksInput options old new leaves s s' end =
    Unread old new leaves s s' end ⊎ ((text : List ℕ) × ChecksLines options text old new leaves s s' end)
