use Rattle.desk_core.specs.ShopView.{state_of}
use Rattle.desk_store.specs.Dumps.{tables_lines}
use Rattle.desk_store.proofs.Exporting.{AreSent}
use Rattle.desk_store.proofs.dump.write_tables.Given as goal

abbrev pub invariant-loop-table : goal.invariant-loop-table
invariant-loop-table g l =
    AreSent (λ table. table) (λ tables. tables_lines tables (state_of l.shop)) (g.W.Write.contents l.initial.writer)
    (g.W.Write.contents l.writer) l.table-index l.tables
