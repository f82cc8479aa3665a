use Rattle.build_core.proofs.BesideStock.{sound-where_outputs_stay}
use Rattle.build_core.proofs.laws.sound_where_outputs_stay.Goals as goal

pub returns : goal.returns
returns c = sound-where_outputs_stay
