use Rattle.std.proofs.Common.{◌+◌, Some, drop, refl, sym, subst, arith, rules}
use Rattle.std.specs.Prelude.{All}
use Rattle.sqlite.specs.Held.{state}
use Rattle.sqlite.specs.State.{HasCleanDisk}
use Rattle.sqlite.proofs.StateLemmas.{survives_then}
use Rattle.sheet_core.specs.Columns.{IsSmall}
use Rattle.table_store.specs.Written.{IsTableOf}
use Rattle.table_store.proofs.Changes.{IsMidway, midway-start, midway-more, midway-writes, stopped}
use Rattle.table_store.proofs.Puts.{puts-done, puts-more, puts_of}
use Rattle.table_store.proofs.write.write_rows.Goals as goal

pub loop-row-init : goal.loop-row-init
loop-row-init g c = record {
  crash = search rules;
  midway =
      λ clean. midway-start (IsTableOf g.R.Stored.row_from g.R.Stored.columns_of c.args.table) g.R.Stored.columns_of
      g.R.Row.key_of c.args.table (puts_of g.R.Row.key_of c.args.rows.now) (state g.S.Store c.args.conn.now)
      (c.requires.ready clean);
}

pub write_row-requires-clause-small : goal.write_row-requires-clause-small
write_row-requires-clause-small g c =
    subst (λ x. All IsSmall (g.R.Stored.columns_of x)) (sym c.row-item.is)
    (c.requires.small c.loop-row.row-index c.row-item.result c.loop-row-test.true)

pub loop-row-preserved : goal.loop-row-preserved
loop-row-preserved g c =
    let key_of = g.R.Row.key_of in
    let old = state g.S.Store c.args.conn.now in
    let now = state g.S.Store c.loop-row.conn in
    let new = state g.S.Store c.write_row.new.conn in
    let row = c.row-item.result in
    let left = drop (c.loop-row.row-index + 1) c.args.rows.now in
    let small =
    subst (λ x. All IsSmall (g.R.Stored.columns_of x)) (sym c.row-item.is)
    (c.requires.small c.loop-row.row-index row c.loop-row-test.true) in
    record {
      crash =
          survives_then old now new (λ _. ⊥) (λ _. ⊥) (λ _. ⊥) (λ _ db h. h) (λ _ db h. h) c.loop-row.invariant.crash
          c.write_row.ensures.crash;
      midway = λ clean.
          let before : HasCleanDisk now = omega (arith, clean, c.write_row.ensures.crash.clean) in
          midway-more (IsTableOf g.R.Stored.row_from g.R.Stored.columns_of c.args.table) g.R.Stored.columns_of
          key_of c.args.table (key_of row, Some row) (puts_of key_of left) (puts_of key_of c.args.rows.now) old now new
          (refl, small)
          (subst (λ left. IsMidway (IsTableOf g.R.Stored.row_from g.R.Stored.columns_of c.args.table) key_of
          c.args.table left (puts_of key_of c.args.rows.now) old now)
          (puts-more key_of c.args.rows.now c.loop-row.row-index row c.loop-row-test.true c.row-item.is)
          (c.loop-row.invariant.midway before))
          (c.in_ok-write_row.ensures.set clean) (c.in_ok-write_row.ensures.put clean);
    }

pub returns-in_err-write_row-clause-failed : goal.returns-in_err-write_row-clause-failed
returns-in_err-write_row-clause-failed g c clean =
    let key_of = g.R.Row.key_of in
    let old = state g.S.Store c.args.conn.now in
    let now = state g.S.Store c.loop-row.conn in
    let new = state g.S.Store c.write_row.new.conn in
    let before : HasCleanDisk now = omega (arith, clean, c.write_row.ensures.crash.clean) in
    stopped c.args.table old now new c.from_residual.result c.in_err-write_row.field-0.0 c.from_residual.ensures.1
    (midway-writes (IsTableOf g.R.Stored.row_from g.R.Stored.columns_of c.args.table) key_of c.args.table
    (puts_of key_of (drop c.loop-row.row-index c.args.rows.now)) (puts_of key_of c.args.rows.now) old now
    (c.loop-row.invariant.midway before))
    (c.in_err-write_row.ensures.failed clean)

pub returns-clause-put : goal.returns-clause-put
returns-clause-put g c clean t own is =
    puts-done g.R.Row.key_of (IsTableOf g.R.Stored.row_from g.R.Stored.columns_of c.args.table) c.args.table
    c.args.rows.now c.loop-row.row-index (state g.S.Store c.args.conn.now) (state g.S.Store c.loop-row.conn)
    c.loop-row-test.false (c.loop-row.invariant.midway clean) t own is
