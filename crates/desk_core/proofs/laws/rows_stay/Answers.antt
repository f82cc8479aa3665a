use Rattle.desk_core.proofs.AllStays.{rows_stay}
use Rattle.desk_core.proofs.laws.rows_stay.Goals as goal

pub returns : goal.returns
returns c = rows_stay
