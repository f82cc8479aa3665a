use Rattle.desk_core.proofs.LeftItems.{left_items_are_named}
use Rattle.desk_core.proofs.laws.left_items_are_named.Goals as goal

pub returns : goal.returns
returns c = left_items_are_named
