use Rattle.std.proofs.Common.{sym, subst, arith}
use Rattle.std.specs.Prelude.{All}
use Rattle.sqlite.specs.Held.{state}
use Rattle.sheet_core.specs.RowKeys.{number_digits}
use Rattle.sheet_core.specs.Sheet.{now_of}
use Rattle.table_store.specs.Written.{tree_of, IsTableOf, MayStop, Takes, changes_of}
use Rattle.table_store.specs.declared.fault.TableFault.TheVariants.{Memory}
use Rattle.table_store.proofs.Changes.{if_err_as, nothing-written, takes-all, now-held}
use Rattle.table_store.proofs.write.write_pending.Goals as goal

pub write_changes-requires-clause-takes : goal.write_changes-requires-clause-takes
write_changes-requires-clause-takes g c =
    subst
    (λ ps. All (λ e. Takes g.R.Stored.columns_of g.R.Row.key_of c.args.table e.0 e.1) (changes_of number_digits ps))
    (sym c.as_slice.ensures.value)
    (takes-all g.R.Stored.columns_of g.R.Row.key_of number_digits c.args.table c.requires.suits
    (now_of c.args.sheet.now) c.args.sheet.now.before c.requires.own.0 c.requires.own.1 c.requires.small.0
    c.requires.small.1 c.requires.stays
    c.in_ok-changes.changes.items c.in_ok-changes.ensures.exact c.in_ok-changes.ensures.rows)

pub returns-clause-written : goal.returns-clause-written
returns-clause-written g c clean =
    now-held number_digits (now_of c.args.sheet.now) c.args.sheet.now.before
    (IsTableOf g.R.Stored.row_from g.R.Stored.columns_of c.args.table
    (tree_of c.args.table (state g.S.Store c.write_changes.new.conn)))
    c.write_changes.result
    c.in_ok-changes.changes.items c.as_slice.result.now c.as_slice.ensures.value c.in_ok-changes.ensures.rows
    c.in_ok-changes.ensures.exact
    (c.write_changes.ensures.made clean c.args.sheet.now.before c.requires.own.1
    (c.requires.before (omega (arith, clean, c.write_changes.ensures.crash.clean))))

pub returns-in_err-changes-clause-failed : goal.returns-in_err-changes-clause-failed
returns-in_err-changes-clause-failed g c clean =
    let old = state g.S.Store c.args.conn.now in
    if_err_as (MayStop c.args.table old old) c.from_residual.result Memory c.from_residual.ensures.1
    (nothing-written c.args.table old (c.requires.ready clean))
