use Rattle.build_core.proofs.BesideParts.{sound-beside_parts}
use Rattle.build_core.proofs.laws.sound_beside_parts.Goals as goal

pub returns : goal.returns
returns c = sound-beside_parts
