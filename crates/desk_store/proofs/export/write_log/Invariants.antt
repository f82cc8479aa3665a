use Rattle.desk_store.specs.RowForms.{lines_in}
use Rattle.desk_store.proofs.Exporting.{AreSent}
use Rattle.desk_store.proofs.export.write_log.Given as goal

abbrev pub invariant-loop-row : goal.invariant-loop-row
invariant-loop-row g l =
    AreSent (λ row. row) (lines_in l.form g.R.Stored.columns_of) (g.W.Write.contents l.initial.writer)
    (g.W.Write.contents l.writer) l.row-index l.rows
