use Rattle.std.proofs.Common.{◌∷◌, [], to_z, w64}
use Rattle.std.proofs.lemmas.Int.{to_z_pos}
use Rattle.sqlite.specs.Held.{state}
use Rattle.sheet_core.specs.RowKeys.{number_digits}
use Rattle.table_store.specs.Written.{tree_of}
use Rattle.table_store.proofs.Changes.{writes, row-removed}
use Rattle.table_store.proofs.Tables.{table-removed}
use Rattle.table_store.proofs.write.remove_row.Goals as goal

pub returns-clause-set : goal.returns-clause-set
returns-clause-set g c clean =
    writes c.drop_row.result c.args.table _ (state g.S.Store c.args.conn.now) (state g.S.Store c.drop_row.new.conn)
    (c.drop_row.ensures.gone clean)

pub returns-clause-gone : goal.returns-clause-gone
returns-clause-gone g c clean rows own before =
    let old = state g.S.Store c.args.conn.now in
    let new = state g.S.Store c.drop_row.new.conn in
    table-removed g.R.Stored.row_from g.R.Stored.columns_of c.args.table (tree_of c.args.table old)
    (tree_of c.args.table new) rows before (c.args.number ∷ []) c.drop_row.result
    (row-removed g.R.Stored.columns_of g.R.Row.key_of number_digits c.args.table c.requires.suits old new
    c.drop_row.result
    c.args.number (to_z w64 c.args.number) (to_z_pos w64 c.args.number c.requires.small) c.requires.dropped
    (c.drop_row.ensures.gone clean) rows own before.holds)
