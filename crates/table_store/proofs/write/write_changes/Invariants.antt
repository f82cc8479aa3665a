use Rattle.std.proofs.Common.{drop}
use Rattle.sqlite.specs.Held.{state}
use Rattle.sqlite.specs.State.{HasCleanDisk, Survives}
use Rattle.sheet_core.specs.RowKeys.{number_digits}
use Rattle.table_store.specs.Written.{IsTableOf, changes_of}
use Rattle.table_store.proofs.Changes.{IsMidway}
use Rattle.table_store.proofs.write.write_changes.Given as goal

abbrev pub invariant-loop-change : goal.invariant-loop-change
invariant-loop-change g l =
    let old = state g.S.Store l.fn.conn in
    let now = state g.S.Store l.conn in
    record {
      crash : Survives old now (λ _. ⊥);
      midway : HasCleanDisk now
          → IsMidway (IsTableOf g.R.Stored.row_from g.R.Stored.columns_of l.table) g.R.Row.key_of l.table
          (changes_of number_digits (drop l.change-index l.changes)) (changes_of number_digits l.changes) old now;
    }
