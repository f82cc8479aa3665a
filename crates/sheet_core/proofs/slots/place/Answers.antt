use Rattle.sheet_core.proofs.Lookups.{place-is_found, place-is_absent}
use Rattle.sheet_core.proofs.slots.place.Goals as goal

pub returns-clause-found : goal.returns-clause-found
returns-clause-found g c =
    place-is_found g.R.Key.RowKey.digits _ g.met.R.Key.RowKey.exact c.args.slots.now.entries c.args.key.now
    c.get_index_of.result c.get_index_of.ensures.index

pub returns-clause-absent : goal.returns-clause-absent
returns-clause-absent g c =
    place-is_absent g.R.Key.RowKey.digits _ g.met.R.Key.RowKey.exact c.args.slots.now.entries c.args.key.now
    c.get_index_of.result c.get_index_of.ensures.found
