use Rattle.std.proofs.Common.{◌+◌, drop, option_copied, subst, arith, rules}
use Rattle.sqlite.specs.Held.{state}
use Rattle.sqlite.specs.State.{HasCleanDisk}
use Rattle.sqlite.proofs.StateLemmas.{survives_then}
use Rattle.table_store.specs.Written.{IsTableOf, KeptTakes, changes_of}
use Rattle.table_store.specs.declared.name.TableName.TheVariants.{Kept}
use Rattle.table_store.proofs.Changes.{left-more, holds-at, stopped}
use Rattle.table_store.proofs.KeptChanges.{IsAdding, adding-start, adding-more, adding-writes}
use Rattle.table_store.proofs.kept.add_changes.Goals as goal

pub loop-change-init : goal.loop-change-init
loop-change-init g c = record {
  crash = search rules;
  adding =
      λ clean.
      adding-start (IsTableOf g.R.Stored.row_from g.R.Stored.columns_of Kept) g.R.Stored.columns_of g.R.Row.key_of
      (changes_of g.R.Key.RowKey.digits c.args.changes.now) (state g.S.Store c.args.conn.now) (c.requires.ready clean);
}

pub add_change-requires-clause-takes : goal.add_change-requires-clause-takes
add_change-requires-clause-takes g c =
    holds-at g.R.Key.RowKey.digits (KeptTakes g.R.Stored.columns_of g.R.Row.key_of) c.args.changes.now
    c.loop-change.change-index c.change-item.result c.loop-change-test.true c.change-item.is c.requires.takes

pub loop-change-preserved : goal.loop-change-preserved
loop-change-preserved g c =
    let old = state g.S.Store c.args.conn.now in
    let now = state g.S.Store c.loop-change.conn in
    let new = state g.S.Store c.add_change.new.conn in
    let p = c.change-item.result in
    record {
      crash =
          survives_then old now new (λ _. ⊥) (λ _. ⊥) (λ _. ⊥) (λ _ db h. h) (λ _ db h. h) c.loop-change.invariant.crash
          c.add_change.ensures.crash;
      adding = λ clean.
          let before : HasCleanDisk now = omega (arith, clean, c.add_change.ensures.crash.clean) in
          adding-more (IsTableOf g.R.Stored.row_from g.R.Stored.columns_of Kept) g.R.Stored.columns_of g.R.Row.key_of
          (g.R.Key.RowKey.digits p.key.now, option_copied p.row)
          (changes_of g.R.Key.RowKey.digits (drop (c.loop-change.change-index + 1) c.args.changes.now))
          (changes_of g.R.Key.RowKey.digits c.args.changes.now) old now new
          (holds-at g.R.Key.RowKey.digits (KeptTakes g.R.Stored.columns_of g.R.Row.key_of) c.args.changes.now
          c.loop-change.change-index p c.loop-change-test.true c.change-item.is c.requires.takes)
          (subst (λ left. IsAdding (IsTableOf g.R.Stored.row_from g.R.Stored.columns_of Kept) g.R.Row.key_of left
          (changes_of g.R.Key.RowKey.digits c.args.changes.now) old now)
          (left-more g.R.Key.RowKey.digits c.args.changes.now c.loop-change.change-index p c.loop-change-test.true
          c.change-item.is)
          (c.loop-change.invariant.adding before))
          (c.in_ok-add_change.ensures.set clean) (c.in_ok-add_change.ensures.made clean);
    }

pub returns-in_err-add_change-clause-failed : goal.returns-in_err-add_change-clause-failed
returns-in_err-add_change-clause-failed g c clean =
    let old = state g.S.Store c.args.conn.now in
    let now = state g.S.Store c.loop-change.conn in
    let new = state g.S.Store c.add_change.new.conn in
    let before : HasCleanDisk now = omega (arith, clean, c.add_change.ensures.crash.clean) in
    stopped Kept old now new c.from_residual.result c.in_err-add_change.field-0.0 c.from_residual.ensures.1
    (adding-writes (IsTableOf g.R.Stored.row_from g.R.Stored.columns_of Kept) g.R.Row.key_of
    (changes_of g.R.Key.RowKey.digits (drop c.loop-change.change-index c.args.changes.now))
    (changes_of g.R.Key.RowKey.digits c.args.changes.now) old now (c.loop-change.invariant.adding before))
    (c.in_err-add_change.ensures.failed clean)
