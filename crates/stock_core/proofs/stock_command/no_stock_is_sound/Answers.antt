use Rattle.stock_core.proofs.Beside.{sound-nothing}
use Rattle.stock_core.proofs.stock_command.no_stock_is_sound.Goals as goal

pub returns : goal.returns
returns c = sound-nothing
