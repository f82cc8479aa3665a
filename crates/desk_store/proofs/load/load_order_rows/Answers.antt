use Rattle.desk_store.proofs.Suiting.{order-line-suits, order-suits}
use Rattle.desk_store.proofs.load.load_order_rows.Goals as goal

pub load_rows-requires-clause-suits : goal.load_rows-requires-clause-suits
load_rows-requires-clause-suits g c = order-suits

pub load_rows-requires-2-clause-suits : goal.load_rows-requires-2-clause-suits
load_rows-requires-2-clause-suits g c = order-line-suits

pub load_rows-requires-clause-breaks : goal.load_rows-requires-clause-breaks
load_rows-requires-clause-breaks g c trees none = none

pub load_rows-requires-2-clause-breaks : goal.load_rows-requires-2-clause-breaks
load_rows-requires-2-clause-breaks g c trees none = none
