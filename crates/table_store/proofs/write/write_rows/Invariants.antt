use Rattle.std.proofs.Common.{drop}
use Rattle.sqlite.specs.Held.{state}
use Rattle.sqlite.specs.State.{HasCleanDisk, Survives}
use Rattle.table_store.specs.Written.{IsTableOf}
use Rattle.table_store.proofs.Changes.{IsMidway}
use Rattle.table_store.proofs.Puts.{puts_of}
use Rattle.table_store.proofs.write.write_rows.Given as goal

abbrev pub invariant-loop-row : goal.invariant-loop-row
invariant-loop-row g l =
    let key_of = g.R.Row.key_of in
    let old = state g.S.Store l.fn.conn in
    let now = state g.S.Store l.conn in
    record {
      crash : Survives old now (λ _. ⊥);
      midway : HasCleanDisk now → IsMidway (IsTableOf g.R.Stored.row_from g.R.Stored.columns_of l.table) key_of l.table
          (puts_of key_of (drop l.row-index l.rows)) (puts_of key_of l.rows) old now;
    }
