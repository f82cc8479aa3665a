use Rattle.desk_store.proofs.ReadingRows.{rows_are_read}
use Rattle.desk_store.proofs.laws.rows_are_read.Goals as goal

pub returns : goal.returns
returns c = rows_are_read
