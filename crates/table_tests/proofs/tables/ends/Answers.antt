use Rattle.sqlite.specs.Held.{state}
use Rattle.table_store.proofs.Loading.{one_of_all}
use Rattle.table_tests.proofs.tables.ends.Goals as goal

pub load_rows-requires : goal.load_rows-requires
load_rows-requires g c clean = one_of_all c.args.table (state g.S.Store c.args.conn.now) (c.requires clean)
