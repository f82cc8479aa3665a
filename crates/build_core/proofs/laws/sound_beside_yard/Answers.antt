use Rattle.build_core.proofs.BesideItems.{sound-beside_yard}
use Rattle.build_core.proofs.laws.sound_beside_yard.Goals as goal

pub returns : goal.returns
returns c = sound-beside_yard
