use Rattle.bom_core.proofs.Cycles.{has_walk_is, contains_itself_is}
use Rattle.bom_core.proofs.laws.walks_are_short.Goals as goal

pub returns : goal.returns
returns c = record { walks = has_walk_is; cycles = contains_itself_is }
