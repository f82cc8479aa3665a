use Rattle.std.proofs.Common.{◌≡◌}
use Rattle.table_store.proofs.Walks.{Walks}
use Rattle.table_store.proofs.walk.each_row.Given as goal

-- the rows so far were taken
abbrev pub invariant-rows : goal.invariant-rows
invariant-rows g l = record {
  same_reference : l.rows.conn.ghost_name ≡ l.initial.rows.conn.ghost_name;
  walks :
      Walks g.S.Store g.V.Visitor.takes g.R.Stored.row_from g.R.Stored.columns_of l.table l.fn.conn l.rows.conn.now
      l.fn.visitor l.visitor;
}
