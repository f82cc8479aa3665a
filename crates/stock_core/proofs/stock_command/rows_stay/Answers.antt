use Rattle.stock_core.proofs.Staying.{rows-stay}
use Rattle.stock_core.proofs.stock_command.rows_stay.Goals as goal

pub returns : goal.returns
returns c = rows-stay
