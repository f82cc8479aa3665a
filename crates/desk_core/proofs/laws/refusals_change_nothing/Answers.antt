use Rattle.desk_core.proofs.InOrder.{refusals_change_nothing}
use Rattle.desk_core.proofs.laws.refusals_change_nothing.Goals as goal

pub returns : goal.returns
returns c = refusals_change_nothing
