use Rattle.std.proofs.Common.{◌≡◌, ◌∷◌, [], ap, ◌∙◌, sym, subst, arith}
use Rattle.std.specs.FinMap.{empty}
use Rattle.std.specs.Prelude.{All}
use Rattle.sqlite.specs.Held.{state}
use Rattle.sqlite.specs.State.{HasCleanDisk}
use Rattle.sqlite.proofs.StateLemmas.{survives_then}
use Rattle.sheet_core.specs.Columns.{IsSmall}
use Rattle.sheet_core.proofs.FilledTables.{filled-own}
use Rattle.desk_core.specs.Machine.{start}
use Rattle.desk_core.specs.ShopView.{state_of}
use Rattle.desk_store.specs.MetaColumns.{meta_columns, meta_from, meta_of, only}
use Rattle.desk_store.specs.declared.meta.MetaRow.{MetaRow}
use Rattle.desk_store.proofs.Kept.{small_meta}
use Rattle.desk_store.proofs.Midway.{both_ok, keeps_row, keeps_then}
use Rattle.desk_store.proofs.Starting.{no_rows, started}
use Rattle.desk_store.proofs.Suiting.{meta-suits}
use Rattle.table_store.specs.Written.{IsTableOf, tree_of}
use Rattle.table_store.specs.declared.name.TableName.TheVariants.{Meta}
use Rattle.desk_store.proofs.create.make.Goals as goal

pub write_row-requires-clause-ready : goal.write_row-requires-clause-ready
write_row-requires-clause-ready g c clean = c.in_ok-make_tables.ensures.ready clean

pub write_row-requires-clause-suits : goal.write_row-requires-clause-suits
write_row-requires-clause-suits g c = meta-suits

pub write_row-requires-clause-small : goal.write_row-requires-clause-small
write_row-requires-clause-small g c =
    subst (λ (m : MetaRow). All IsSmall (meta_columns m)) (sym c.of.ensures)
    (small_meta (state_of c.args.shop.now) c.requires.sound)

pub returns-clause-made : goal.returns-clause-made
returns-clause-made g c clean =
    let d1 = state g.S.Store c.make_tables.new.conn in
    let d2 = state g.S.Store c.write_row.new.conn in
    let clean1 : HasCleanDisk d1 = omega (arith, clean, c.write_row.ensures.crash.clean) in
    let fresh = c.in_ok-make_tables.ensures.fresh clean1 in
    let is : c.of.result ≡ meta_of (start c.args.limits) = c.of.ensures ∙ ap meta_of c.requires.nothing in
    both_ok c.write_row.result
    (λ set put. started c.args.limits d1 d2 fresh set
    (subst (λ (r : MetaRow). IsTableOf meta_from meta_columns Meta (tree_of Meta d2) (only r)) is put))
    (c.write_row.ensures.set clean)
    (c.write_row.ensures.put clean empty (filled-own (λ (r : MetaRow). r.one ∷ []) [])
    (no_rows meta_from meta_columns Meta (tree_of Meta d1) (fresh.empty Meta)))

pub returns-clause-crash : goal.returns-clause-crash
returns-clause-crash g c =
    survives_then (state g.S.Store c.args.conn.now) (state g.S.Store c.make_tables.new.conn)
    (state g.S.Store c.write_row.new.conn) (λ _. ⊥) (λ _. ⊥) (λ _. ⊥) (λ _ db h. h) (λ _ db h. h)
    c.make_tables.ensures.crash c.write_row.ensures.crash

pub returns-clause-commit : goal.returns-clause-commit
returns-clause-commit g c clean =
    let d0 = state g.S.Store c.args.conn.now in
    let d1 = state g.S.Store c.make_tables.new.conn in
    let d2 = state g.S.Store c.write_row.new.conn in
    let clean1 : HasCleanDisk d1 = omega (arith, clean, c.write_row.ensures.crash.clean) in
    keeps_then d0 d1 d2 (c.make_tables.ensures.commit clean1)
    (keeps_row Meta d1 d2 c.write_row.result (c.write_row.ensures.set clean) (c.write_row.ensures.failed clean))
