use Rattle.std.proofs.Common.{IfErr, rules, arith}
use Rattle.sqlite.specs.Held.{state}
use Rattle.table_store.specs.Stored.{FailsToLoad}
use Rattle.table_store.specs.Written.{tree_of}
use Rattle.table_store.proofs.Loads.{all-taken, loaded-are, none-suited}
use Rattle.table_store.proofs.read.load_sheet.Goals as goal

pub returns-in_err-each_row-clause-none : goal.returns-in_err-each_row-clause-none
returns-in_err-each_row-clause-none g c clean =
    let old = state g.S.Store c.args.conn.now in
    let new = state g.S.Store c.each_row.new.conn in
    let at = c.in_err-each_row.ensures.failed clean in
    let failed : IfErr c.from_residual.result (FailsToLoad g.R.Stored.row_from c.args.table old new) = search rules in
    none-suited g.R.Stored.row_from g.R.Stored.columns_of c.args.table old new g.R.Row.key_of c.from_residual.result
    failed

pub returns-clause-rows : goal.returns-clause-rows
returns-clause-rows g c clean =
    let tree = tree_of c.args.table (state g.S.Store c.args.conn.now) in
    loaded-are g.R.Stored.row_from g.R.Stored.columns_of g.R.Row.key_of c.args.table tree c.each_row.new.visitor.items
    (c.requires (omega (arith, clean, c.each_row.ensures.crash.clean))).shaped.0
    (all-taken g.R.Stored.row_from g.R.Stored.columns_of c.args.table tree c.with_room-rows.result
    c.each_row.new.visitor c.with_room-rows.ensures (c.in_ok-each_row.ensures.whole clean))

pub returns-clause-loaded : goal.returns-clause-loaded
returns-clause-loaded g c clean =
    all-taken g.R.Stored.row_from g.R.Stored.columns_of c.args.table
    (tree_of c.args.table (state g.S.Store c.args.conn.now)) c.with_room-rows.result c.each_row.new.visitor
    c.with_room-rows.ensures (c.in_ok-each_row.ensures.whole clean)
