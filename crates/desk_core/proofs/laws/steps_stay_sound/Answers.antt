use Rattle.desk_core.proofs.InOrder.{runs_stay_sound, steps_stay_sound}
use Rattle.desk_core.proofs.laws.steps_stay_sound.Goals as goal

pub returns-clause-step : goal.returns-clause-step
returns-clause-step c = steps_stay_sound

pub returns-clause-run : goal.returns-clause-run
returns-clause-run c = runs_stay_sound
