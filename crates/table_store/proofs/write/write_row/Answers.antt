use Rattle.std.proofs.Common.{◌≡◌, ap, sym, subst, map, ◌∙◌, Some, arith}
use Rattle.sqlite.specs.Held.{state}
use Rattle.sqlite.specs.Values.{bound}
use Rattle.sheet_core.specs.RowKeys.{number_digits}
use Rattle.table_store.specs.Stored.{value_of}
use Rattle.table_store.specs.Written.{tree_of, IsRead}
use Rattle.table_store.proofs.Changes.{writes, row-put}
use Rattle.table_store.proofs.Columns.{row_kept}
use Rattle.table_store.proofs.Tables.{table-put}
use Rattle.table_store.proofs.write.write_row.Goals as goal

pub returns-clause-set : goal.returns-clause-set
returns-clause-set g c clean =
    writes c.put_row.result c.args.table _ (state g.S.Store c.args.conn.now) (state g.S.Store c.put_row.new.conn)
    (c.put_row.ensures.put clean)

pub returns-clause-put : goal.returns-clause-put
returns-clause-put g c clean rows own before =
    let columns = c.in_ok-columns.columns.items in
    let written : columns ≡ g.R.Stored.columns_of c.args.row.now = c.in_ok-columns.ensures.columns in
    let old = state g.S.Store c.args.conn.now in
    let new = state g.S.Store c.put_row.new.conn in
    let reads : IsRead g.R.Stored.row_from g.R.Stored.columns_of c.args.row.now =
    row_kept g.R.Stored.row_from g.R.Stored.columns_of c.args.row.now c.as_slice.result.now
    (c.as_slice.ensures.value ∙ written) c.in_ok-values.ensures.read
    (subst (λ cs. g.R.Stored.row_from cs ≡ Some c.args.row.now) (sym c.as_slice.ensures.value)
    c.in_ok-columns.ensures.read) in
    table-put g.R.Stored.row_from g.R.Stored.columns_of c.args.table (tree_of c.args.table old)
    (tree_of c.args.table new) rows before (g.R.Row.key_of c.args.row.now) c.put_row.result c.args.row.now reads
    (row-put g.R.Stored.columns_of g.R.Row.key_of number_digits c.args.table c.requires.suits old new c.put_row.result
    c.args.row.now (bound c.as_slice-2.result.now)
    (c.requires.ready (omega (arith, clean, c.put_row.ensures.crash.clean))).0.0
    (ap bound c.as_slice-2.ensures.value
    ∙ c.in_ok-values.ensures.values
    ∙ ap (map value_of) (c.as_slice.ensures.value ∙ written))
    (c.put_row.ensures.put clean) rows own before.holds)
