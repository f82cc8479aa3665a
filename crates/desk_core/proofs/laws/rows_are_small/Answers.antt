use Rattle.desk_core.proofs.SmallRows.{rows_are_small}
use Rattle.desk_core.proofs.laws.rows_are_small.Goals as goal

pub returns : goal.returns
returns c = rows_are_small
