use Rattle.desk_store.proofs.Suiting.{entry-suits, item-suits, location-suits}
use Rattle.desk_store.proofs.load.load_stock.Goals as goal

pub load_rows-requires-clause-suits : goal.load_rows-requires-clause-suits
load_rows-requires-clause-suits g c = location-suits

pub load_rows-requires-2-clause-suits : goal.load_rows-requires-2-clause-suits
load_rows-requires-2-clause-suits g c = item-suits

pub load_rows-requires-3-clause-suits : goal.load_rows-requires-3-clause-suits
load_rows-requires-3-clause-suits g c = entry-suits

pub load_rows-requires-clause-breaks : goal.load_rows-requires-clause-breaks
load_rows-requires-clause-breaks g c trees none = none

pub load_rows-requires-2-clause-breaks : goal.load_rows-requires-2-clause-breaks
load_rows-requires-2-clause-breaks g c trees none = none

pub load_rows-requires-3-clause-breaks : goal.load_rows-requires-3-clause-breaks
load_rows-requires-3-clause-breaks g c trees none = none
