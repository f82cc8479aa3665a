use Rattle.sqlite.specs.Held.{state}
use Rattle.table_store.specs.declared.name.TableName.TheVariants.{Kept}
use Rattle.table_store.proofs.Loading.{one_of_all}
use Rattle.table_tests.proofs.tables.keeps_a_word.Goals as goal

pub load_rows-requires : goal.load_rows-requires
load_rows-requires g c clean =
    one_of_all Kept (state g.S.Store c.committed.new.conn) (c.in_ok-committed.ensures.tables clean)
