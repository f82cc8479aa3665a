use Rattle.sqlite.specs.Held.{state}
use Rattle.table_store.specs.declared.name.TableName.TheVariants.{Locations}
use Rattle.table_store.proofs.Loading.{one_of_all}
use Rattle.table_tests.proofs.sheets.walked.Goals as goal

pub each_row-requires : goal.each_row-requires
each_row-requires g c clean =
    one_of_all Locations (state g.S.Store c.committed.new.conn) (c.in_ok-committed.ensures.tables clean)
