use Rattle.stock_core.proofs.Effects.{sound-effect}
use Rattle.stock_core.proofs.stock_command.effects_are_sound.Goals as goal

pub returns : goal.returns
returns c = sound-effect
