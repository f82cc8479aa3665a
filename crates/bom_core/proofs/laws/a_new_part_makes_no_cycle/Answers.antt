use Rattle.bom_core.proofs.Variants.{acyclic-with_row, sound-with_part}
use Rattle.bom_core.proofs.laws.a_new_part_makes_no_cycle.Goals as goal

pub returns : goal.returns
returns c = record { sound = sound-with_part; acyclic = acyclic-with_row }
