-- The tables that a walk looks into, each made once.
use Rattle.std.specs.Prelude.{◌≡◌, ℕ}
use Rattle.sheet_core.specs.Sheet.{now_of}
use Rattle.desk_core.specs.Machine.{State}
use Rattle.list_core.specs.Lives.{TellLives}
use Rattle.list_core.specs.Origins.{origins_in}
use Rattle.list_core.specs.Used.{numbers_used, used_by}
use Rattle.list_core.specs.declared.trace_tables.TraceTables.{TraceTables}

-- they are those of the state
pub record AreTables (s : State) (tables : TraceTables) : Type 0 where
  pub origins : now_of tables.origins ≡ origins_in s
  pub used : (build : ℕ) → numbers_used build (now_of tables.used) ≡ used_by build s.stock
  pub lives : TellLives s (now_of tables.lives)
