use Rattle.std.proofs.Common.{subst, sym, arith}
use Rattle.std.specs.Prelude.{All}
use Rattle.sqlite.specs.Held.{state}
use Rattle.sqlite.specs.State.{HasCleanDisk}
use Rattle.sheet_core.specs.Columns.{IsSmall}
use Rattle.desk_core.specs.ShopView.{state_before, state_of}
use Rattle.desk_store.specs.MetaColumns.{meta_columns, only}
use Rattle.desk_store.specs.StateTables.{HasOneRow}
use Rattle.desk_store.specs.declared.meta.MetaRow.{MetaRow}
use Rattle.desk_store.proofs.Kept.{meta_there, own_meta}
use Rattle.desk_store.proofs.Midway.{both_ok, keeps_row, one_written}
use Rattle.desk_store.proofs.Suiting.{meta-suits}
use Rattle.table_store.specs.Written.{tree_of}
use Rattle.table_store.specs.declared.name.TableName.TheVariants.{Meta}
use Rattle.desk_store.proofs.save.write_counter.Goals as goal

pub write_row-requires-clause-suits : goal.write_row-requires-clause-suits
write_row-requires-clause-suits g c = meta-suits

pub write_row-requires-clause-ready : goal.write_row-requires-clause-ready
write_row-requires-clause-ready g c clean = (c.requires.under_way clean).ready

pub write_row-requires-clause-small : goal.write_row-requires-clause-small
write_row-requires-clause-small g c =
    subst (λ (m : MetaRow). All IsSmall (meta_columns m)) (sym c.of.ensures) c.requires.small

pub returns : goal.returns
returns g c =
    let old = state_before c.args.shop.now in
    let new = state_of c.args.shop.now in
    let d = state g.S.Store c.args.conn.now in
    let e = state g.S.Store c.write_row.new.conn in
    record {
      under_way = λ clean.
          let clean0 : HasCleanDisk d = omega (arith, clean, c.write_row.ensures.crash.clean) in
          let way = c.requires.under_way clean0 in
          let there : HasOneRow (tree_of Meta d) = way.midway.left Meta (omega arith) in
          both_ok c.write_row.result
          (λ set put.
          one_written old new Meta d e way set
          (meta_there (tree_of Meta e) there.row new c.of.result there.key c.of.ensures put))
          (c.write_row.ensures.set clean)
          (c.write_row.ensures.put clean (only there.row) (own_meta there.row) there.table);
      commit =
          λ clean.
          keeps_row Meta d e c.write_row.result (c.write_row.ensures.set clean) (c.write_row.ensures.failed clean);
      fault = c.write_row.ensures.fault;
      crash = c.write_row.ensures.crash;
    }
