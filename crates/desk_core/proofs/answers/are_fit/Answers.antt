use Rattle.desk_core.proofs.KeptRows.{fit_each}
use Rattle.desk_core.proofs.answers.are_fit.Goals as goal

pub returns-clause-ids : goal.returns-clause-ids
returns-clause-ids c = fit_each c.args.ids.now c.type_inv.ids
