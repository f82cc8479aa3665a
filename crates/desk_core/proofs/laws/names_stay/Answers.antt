use Rattle.desk_core.proofs.NamesStay.{names_stay, names_stay_in_runs}
use Rattle.desk_core.proofs.laws.names_stay.Goals as goal

pub returns-clause-step : goal.returns-clause-step
returns-clause-step c = names_stay

pub returns-clause-run : goal.returns-clause-run
returns-clause-run c = names_stay_in_runs
