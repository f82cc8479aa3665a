use Rattle.std.proofs.Common.{IfErr, sym, rules, subst, ◌∙◌, true≢false}
use Rattle.sqlite.specs.Held.{state}
use Rattle.table_store.specs.Stored.{FailsToLoad}
use Rattle.table_store.specs.Written.{tree_of, RowsRise}
use Rattle.table_store.specs.declared.name.TableName.TheVariants.{Kept}
use Rattle.table_store.proofs.KeptLoads.{kept-are, repeated-none}
use Rattle.table_store.proofs.Loading.{one_of_all}
use Rattle.table_store.proofs.Loads.{all-taken, none-own}
use Rattle.table_store.proofs.read.load_kept.Goals as goal

pub each_row-requires : goal.each_row-requires
each_row-requires g c clean = one_of_all Kept (state g.S.Store c.args.conn.now) (c.requires.tables clean)

pub returns-in_err-each_row-clause-none : goal.returns-in_err-each_row-clause-none
returns-in_err-each_row-clause-none g c clean =
    let old = state g.S.Store c.args.conn.now in
    let new = state g.S.Store c.each_row.new.conn in
    let at = c.in_err-each_row.ensures.failed clean in
    let failed : IfErr c.from_residual.result (FailsToLoad g.R.Stored.row_from Kept old new) = search rules in
    none-own g.R.Stored.row_from g.R.Stored.columns_of Kept old new g.R.Row.key_of c.from_residual.result failed

pub returns-then-branch-clause-rows : goal.returns-then-branch-clause-rows
returns-then-branch-clause-rows g c clean =
    let tree = tree_of Kept (state g.S.Store c.args.conn.now) in
    kept-are g.R.Stored.row_from g.R.Stored.columns_of g.R.Row.key_of c.requires.suits tree
    c.each_row.new.visitor.items
    (all-taken g.R.Stored.row_from g.R.Stored.columns_of Kept tree c.new-rows.result
    c.each_row.new.visitor c.new-rows.ensures.items (c.in_ok-each_row.ensures.whole clean))
    (subst (RowsRise g.R.Row.key_of) c.as_slice.ensures.value (c.in_ok-are_keys_rising.ensures.0 c.if-branch.true))

pub returns-else-branch-clause-none : goal.returns-else-branch-clause-none
returns-else-branch-clause-none g c clean bad =
    let tree = tree_of Kept (state g.S.Store c.args.conn.now) in
    repeated-none g.R.Stored.row_from g.R.Stored.columns_of g.R.Row.key_of c.requires.suits tree
    c.each_row.new.visitor.items
    (all-taken g.R.Stored.row_from g.R.Stored.columns_of Kept tree c.new-rows.result
    c.each_row.new.visitor c.new-rows.ensures.items (c.in_ok-each_row.ensures.whole clean))
    (λ h.
    true≢false (sym (c.in_ok-are_keys_rising.ensures.1 (subst (RowsRise g.R.Row.key_of) (sym c.as_slice.ensures.value) h))
    ∙ c.if-branch.false))
