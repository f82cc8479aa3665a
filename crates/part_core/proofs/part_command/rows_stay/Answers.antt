use Rattle.part_core.proofs.Staying.{rows-stay}
use Rattle.part_core.proofs.part_command.rows_stay.Goals as goal

pub returns : goal.returns
returns c = rows-stay
