use Rattle.part_core.proofs.SoundRows.{sound-effect}
use Rattle.part_core.proofs.part_command.effects_are_sound.Goals as goal

pub returns : goal.returns
returns c = sound-effect
