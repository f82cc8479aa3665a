-- A run over the lines of the standard input.
use Rattle.std.specs.Prelude.{◌≡◌, ◌≢◌, ◌||◌, Bool, Option, None, IsSome}
use Rattle.sqlite.specs.Tree.{Trees}
use Rattle.desk_core.specs.Machine.{State}
use Rattle.desk_store.specs.StateTables.{TablesAre}
use Rattle.desk_core.specs.declared.end.RunEnd.{RunEnd}
use Rattle.desk_core.specs.declared.end.RunEnd.TheVariants.{Done, Store}
use Rattle.desk_core.specs.declared.end.Stop.{Stop}
use Rattle.desk_core.specs.Ends.{end_of}
use Rattle.desk_app.specs.declared.options.RunOptions.{RunOptions}
use Rattle.desk_app.specs.Runs.{Finished, Stopped}
use Rattle.desk_cli.specs.declared.task.RunWords.{RunWords}

-- How the lines of the standard input are taken: rows may be named in them, or not, as the words say; requests get keys where
-- the words say so, and where the lines are typed. Whether they are is known to no clause.
abbrev pub taken_by : RunWords → Bool → RunOptions
taken_by how typed =
    record { lines = record { names = how.names; journal = how.journal || typed }; stop = how.stop }

abbrev pub AreTakenBy : RunWords → RunOptions → Type 0
AreTakenBy how options = (typed : Bool) × (options ≡ taken_by how typed)

-- Lines were run on books that were in the state s and are in s', and the run ended so. They were taken in this way, and
-- the run might stop at the first that was refused or faulty, or not. Which lines came, and what was written,
-- is known to no clause: they are some lines. The books had been closed by the one fault, if by any, and are by the
-- other; these tables a crash may leave of them now.
pub record RunsLines {F : Type 0} (options : RunOptions) (old new : Option F) (leaves : Trees → Type 0) (s s' : State)
    (end : RunEnd) : Type 0 where
  pub done : (all : Bool) → end ≡ Done all → Finished options None None None s s' all
  pub stopped : (why : Stop) → end ≡ end_of why
      → Stopped options why None None None s s' (λ trees. (old ≡ None) × leaves trees)
  pub were_open : end ≢ Store → (old ≡ None) × (new ≡ None)
  pub closed : end ≡ Store → IsSome new
  pub left : end ≢ Store → (trees : Trees) → leaves trees → TablesAre s' trees
