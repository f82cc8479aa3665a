use Rattle.sqlite.specs.Held.{state}
use Rattle.table_store.specs.declared.name.TableName.TheVariants.{Locations}
use Rattle.table_store.proofs.Loading.{one_of_all}
use Rattle.table_tests.proofs.sheets.loads.Goals as goal

pub load_sheet-requires : goal.load_sheet-requires
load_sheet-requires g c clean =
    one_of_all Locations (state g.S.Store c.committed.new.conn) (c.in_ok-committed.ensures.tables clean)
