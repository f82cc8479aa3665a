use Rattle.table_store.proofs.Columns.{row_told}
use Rattle.table_store.proofs.read.row_of.Goals as goal

pub returns-clause-told : goal.returns-clause-told
returns-clause-told g c =
    row_told g.R.Stored.columns_of c.from_columns.result c.args.row.now c.in_ok-columns.columns.items
    c.as_slice.result.now c.in_ok-columns.ensures c.as_slice.ensures.value c.from_columns.ensures.told
