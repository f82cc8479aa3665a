use Rattle.yard_core.proofs.Staying.{rows-stay}
use Rattle.yard_core.proofs.yard_command.rows_stay.Goals as goal

pub returns : goal.returns
returns c = rows-stay
