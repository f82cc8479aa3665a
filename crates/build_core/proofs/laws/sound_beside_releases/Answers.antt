use Rattle.build_core.proofs.BesideStock.{sound-beside_releases}
use Rattle.build_core.proofs.laws.sound_beside_releases.Goals as goal

pub returns : goal.returns
returns c = sound-beside_releases
