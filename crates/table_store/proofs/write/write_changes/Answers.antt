use Rattle.std.proofs.Common.{◌+◌, drop, option_copied, subst, arith, rules}
use Rattle.sqlite.specs.Held.{state}
use Rattle.sqlite.specs.State.{HasCleanDisk}
use Rattle.sqlite.proofs.StateLemmas.{survives_then}
use Rattle.sheet_core.specs.RowKeys.{number_digits}
use Rattle.table_store.specs.Written.{IsTableOf, Takes, changes_of}
use Rattle.table_store.proofs.Changes.{IsMidway, midway-start, midway-more, midway-writes, left-more, holds-at, stopped}
use Rattle.table_store.proofs.write.write_changes.Goals as goal

pub loop-change-init : goal.loop-change-init
loop-change-init g c = record {
  crash = search rules;
  midway =
      λ clean. midway-start (IsTableOf g.R.Stored.row_from g.R.Stored.columns_of c.args.table) g.R.Stored.columns_of
      g.R.Row.key_of c.args.table (changes_of number_digits c.args.changes.now) (state g.S.Store c.args.conn.now)
      (c.requires.ready clean);
}

pub write_change-requires-clause-takes : goal.write_change-requires-clause-takes
write_change-requires-clause-takes g c =
    holds-at number_digits (Takes g.R.Stored.columns_of g.R.Row.key_of c.args.table) c.args.changes.now
    c.loop-change.change-index c.change-item.result c.loop-change-test.true c.change-item.is c.requires.takes

pub loop-change-preserved : goal.loop-change-preserved
loop-change-preserved g c =
    let old = state g.S.Store c.args.conn.now in
    let now = state g.S.Store c.loop-change.conn in
    let new = state g.S.Store c.write_change.new.conn in
    let p = c.change-item.result in
    record {
      crash =
          survives_then old now new (λ _. ⊥) (λ _. ⊥) (λ _. ⊥) (λ _ db h. h) (λ _ db h. h) c.loop-change.invariant.crash
          c.write_change.ensures.crash;
      midway = λ clean.
          let before : HasCleanDisk now = omega (arith, clean, c.write_change.ensures.crash.clean) in
          midway-more (IsTableOf g.R.Stored.row_from g.R.Stored.columns_of c.args.table) g.R.Stored.columns_of
          g.R.Row.key_of c.args.table (number_digits p.key.now, option_copied p.row)
          (changes_of number_digits (drop (c.loop-change.change-index + 1) c.args.changes.now))
          (changes_of number_digits c.args.changes.now) old now new
          (holds-at number_digits (Takes g.R.Stored.columns_of g.R.Row.key_of c.args.table) c.args.changes.now
          c.loop-change.change-index p c.loop-change-test.true c.change-item.is c.requires.takes)
          (subst (λ left. IsMidway (IsTableOf g.R.Stored.row_from g.R.Stored.columns_of c.args.table) g.R.Row.key_of
          c.args.table left (changes_of number_digits c.args.changes.now) old now)
          (left-more number_digits c.args.changes.now c.loop-change.change-index p c.loop-change-test.true
          c.change-item.is)
          (c.loop-change.invariant.midway before))
          (c.in_ok-write_change.ensures.set clean) (c.in_ok-write_change.ensures.made clean);
    }

pub returns-in_err-write_change-clause-failed : goal.returns-in_err-write_change-clause-failed
returns-in_err-write_change-clause-failed g c clean =
    let old = state g.S.Store c.args.conn.now in
    let now = state g.S.Store c.loop-change.conn in
    let new = state g.S.Store c.write_change.new.conn in
    let before : HasCleanDisk now = omega (arith, clean, c.write_change.ensures.crash.clean) in
    stopped c.args.table old now new c.from_residual.result c.in_err-write_change.field-0.0 c.from_residual.ensures.1
    (midway-writes (IsTableOf g.R.Stored.row_from g.R.Stored.columns_of c.args.table) g.R.Row.key_of c.args.table
    (changes_of number_digits (drop c.loop-change.change-index c.args.changes.now))
    (changes_of number_digits c.args.changes.now) old now (c.loop-change.invariant.midway before))
    (c.in_err-write_change.ensures.failed clean)
