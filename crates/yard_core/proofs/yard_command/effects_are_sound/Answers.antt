use Rattle.yard_core.proofs.SoundRows.{sound-effect}
use Rattle.yard_core.proofs.yard_command.effects_are_sound.Goals as goal

pub returns : goal.returns
returns c = sound-effect
