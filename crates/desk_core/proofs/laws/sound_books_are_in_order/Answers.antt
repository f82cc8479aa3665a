use Rattle.desk_core.proofs.InOrder.{in_order}
use Rattle.desk_core.proofs.laws.sound_books_are_in_order.Goals as goal

pub returns : goal.returns
returns c = in_order
