use Rattle.std.proofs.Common.{sym, subst, arith}
use Rattle.std.specs.Prelude.{All}
use Rattle.sqlite.specs.Held.{state}
use Rattle.sheet_core.specs.Sheet.{now_of}
use Rattle.table_store.specs.Written.{tree_of, IsTableOf, MayStop, KeptTakes, AreNew, changes_of}
use Rattle.table_store.specs.declared.name.TableName.TheVariants.{Kept}
use Rattle.table_store.specs.declared.fault.TableFault.TheVariants.{Memory}
use Rattle.table_store.proofs.Changes.{if_err_as, nothing-written, now-held}
use Rattle.table_store.proofs.KeptChanges.{kept-takes-all, all-new, own-before}
use Rattle.table_store.proofs.kept.write_kept.Goals as goal

pub add_changes-requires-clause-takes : goal.add_changes-requires-clause-takes
add_changes-requires-clause-takes g c =
    subst
    (λ ps. All (λ e. KeptTakes g.R.Stored.columns_of g.R.Row.key_of e.0 e.1) (changes_of g.R.Key.RowKey.digits ps))
    (sym c.as_slice.ensures.value)
    (kept-takes-all g.R.Key.RowKey.digits (now_of c.args.sheet.now) c.args.sheet.now.before c.requires.added
    g.R.Stored.columns_of g.R.Row.key_of c.requires.own c.requires.small
    c.in_ok-changes.changes.items c.in_ok-changes.ensures.exact c.in_ok-changes.ensures.rows)

pub returns-clause-written : goal.returns-clause-written
returns-clause-written g c clean =
    let now = now_of c.args.sheet.now in
    let before = c.args.sheet.now.before in
    let changes = c.in_ok-changes.changes.items in
    now-held g.R.Key.RowKey.digits now before
    (IsTableOf g.R.Stored.row_from g.R.Stored.columns_of Kept (tree_of Kept (state g.S.Store c.add_changes.new.conn)))
    c.add_changes.result
    changes c.as_slice.result.now c.as_slice.ensures.value c.in_ok-changes.ensures.rows c.in_ok-changes.ensures.exact
    (c.add_changes.ensures.made clean before
    (own-before g.R.Key.RowKey.digits now before c.requires.added g.R.Row.key_of c.requires.own)
    (subst (λ ps. AreNew (changes_of g.R.Key.RowKey.digits ps) before) (sym c.as_slice.ensures.value)
    (all-new g.R.Key.RowKey.digits now before c.requires.added changes c.in_ok-changes.ensures.once
    c.in_ok-changes.ensures.exact))
    (c.requires.before (omega (arith, clean, c.add_changes.ensures.crash.clean))))

pub returns-in_err-changes-clause-failed : goal.returns-in_err-changes-clause-failed
returns-in_err-changes-clause-failed g c clean =
    let old = state g.S.Store c.args.conn.now in
    if_err_as (MayStop Kept old old) c.from_residual.result Memory c.from_residual.ensures.1
    (nothing-written Kept old (c.requires.ready clean))
