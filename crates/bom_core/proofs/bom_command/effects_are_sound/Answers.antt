use Rattle.bom_core.proofs.SoundChanges.{sound-effect}
use Rattle.bom_core.proofs.bom_command.effects_are_sound.Goals as goal

pub returns : goal.returns
returns c = sound-effect
