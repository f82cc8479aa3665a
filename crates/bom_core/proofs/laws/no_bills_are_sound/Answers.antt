use Rattle.bom_core.proofs.Variants.{sound-nothing}
use Rattle.bom_core.proofs.laws.no_bills_are_sound.Goals as goal

pub returns : goal.returns
returns c = sound-nothing
