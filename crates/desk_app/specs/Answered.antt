-- What was answered is kept.
use Rattle.std.specs.Prelude.{◌≡◌, ℕ, Bool, List, ◌++◌, Option}
use Rattle.std.specs.Io.KnownBytes.{Appends}
use Rattle.sqlite.specs.Tree.{Trees}
use Rattle.desk_core.specs.Machine.{State}
use Rattle.desk_store.specs.StateTables.{TablesAre}
use Rattle.desk_app.specs.declared.options.RunOptions.{RunOptions}
use Rattle.desk_app.specs.Runs.{AreTaken, BeginWith, run_after, run_out}

-- these are the tables after the first of the text's whole lines, no fewer than these, and the run takes those all
pub record AreAfterNoFewer (options : RunOptions) (text : Option (List ℕ)) (s : State) (answered : List (List ℕ))
    (trees : Trees) : Type 0 where
  pub further : List (List ℕ)
  pub first : BeginWith text (answered ++ further)
  pub all_taken : AreTaken options s (answered ++ further)
  pub tables : TablesAre (run_after options.lines s 1 (answered ++ further)) trees

-- What was written is a front of the answers to these first lines of the text, and whatever tables a crash leaves are
-- those after these lines, or after these and some more. So each line of whose answer anything was written is in them.
pub record AnsweredIsKept (options : RunOptions) (text w w' : Option (List ℕ)) (s : State)
    (leaves : Trees → Type 0) : Type 0 where
  pub answered : List (List ℕ)
  pub front : List ℕ
  pub more : List ℕ
  pub first : BeginWith text answered
  pub all_taken : AreTaken options s answered
  pub answers : run_out options.lines s 1 answered ≡ front ++ more
  pub written : Appends w w' front
  pub kept : (trees : Trees) → leaves trees → AreAfterNoFewer options text s answered trees
