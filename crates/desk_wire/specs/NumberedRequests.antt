-- A row of a file.
use Rattle.std.specs.Prelude.{ℕ}
use Rattle.desk_core.specs.declared.command.Request.{Request}

-- the number of a row, and the request that it is
pub record NumberedRequest : Type 0 where
  pub number : ℕ
  pub request : Request
