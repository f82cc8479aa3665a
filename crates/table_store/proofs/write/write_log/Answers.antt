use Rattle.std.proofs.Common.{OnOk, sym, subst, arith}
use Rattle.std.specs.Prelude.{All}
use Rattle.sqlite.specs.Held.{state}
use Rattle.sheet_core.specs.Columns.{IsSmall}
use Rattle.sheet_core.specs.Sheet.{now_of}
use Rattle.table_store.specs.Written.{tree_of, IsTableOf}
use Rattle.table_store.proofs.Puts.{all-behind}
use Rattle.table_store.proofs.write.write_log.Goals as goal

pub write_rows-requires-clause-small : goal.write_rows-requires-clause-small
write_rows-requires-clause-small g c =
    all-behind (λ row. All IsSmall (g.R.Stored.columns_of row)) (now_of c.args.log.now) c.args.log.now.before
    c.pending.result.now c.pending.ensures.behind c.requires.small

pub returns-clause-written : goal.returns-clause-written
returns-clause-written g c clean =
    subst (λ rows. OnOk c.write_rows.result (IsTableOf g.R.Stored.row_from g.R.Stored.columns_of c.args.table
    (tree_of c.args.table (state g.S.Store c.write_rows.new.conn)) rows))
    (sym c.pending.ensures.put)
    (c.write_rows.ensures.put clean c.args.log.now.before c.requires.own
    (c.requires.before (omega (arith, clean, c.write_rows.ensures.crash.clean))))
