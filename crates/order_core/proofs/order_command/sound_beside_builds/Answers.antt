use Rattle.order_core.proofs.Beside.{sound-beside_builds}
use Rattle.order_core.proofs.order_command.sound_beside_builds.Goals as goal

pub returns : goal.returns
returns c = sound-beside_builds
