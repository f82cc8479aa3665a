use Rattle.std.proofs.Common.{drop}
use Rattle.sqlite.specs.Held.{state}
use Rattle.sqlite.specs.State.{HasCleanDisk, Survives}
use Rattle.table_store.specs.Written.{IsTableOf, changes_of}
use Rattle.table_store.specs.declared.name.TableName.TheVariants.{Kept}
use Rattle.table_store.proofs.KeptChanges.{IsAdding}
use Rattle.table_store.proofs.kept.add_changes.Given as goal

abbrev pub invariant-loop-change : goal.invariant-loop-change
invariant-loop-change g l =
    let old = state g.S.Store l.fn.conn in
    let now = state g.S.Store l.conn in
    record {
      crash : Survives old now (λ _. ⊥);
      adding : HasCleanDisk now
          → IsAdding (IsTableOf g.R.Stored.row_from g.R.Stored.columns_of Kept) g.R.Row.key_of
          (changes_of g.R.Key.RowKey.digits (drop l.change-index l.changes))
          (changes_of g.R.Key.RowKey.digits l.changes) old now;
    }
