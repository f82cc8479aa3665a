use Rattle.desk_core.proofs.Again.{left_out}
use Rattle.desk_core.proofs.repeats.repeats_can_be_left_out.Goals as goal

pub returns : goal.returns
returns c = left_out
