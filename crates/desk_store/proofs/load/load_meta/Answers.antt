use Rattle.std.proofs.Common.{List, [], ◌∷◌, subst, sym}
use Rattle.sqlite.specs.Held.{state}
use Rattle.sheet_core.specs.RowKeys.{number_digits}
use Rattle.desk_store.proofs.Metas.{meta-read, meta-unread}
use Rattle.desk_store.proofs.Readings.{fails_to_load}
use Rattle.desk_store.proofs.Suiting.{meta-suits}
use Rattle.desk_store.specs.Loading.{AreTheRows}
use Rattle.desk_store.specs.MetaColumns.{meta_columns, meta_from}
use Rattle.desk_store.specs.Opening.{IsOfOtherVersion, WhyBut}
use Rattle.desk_store.specs.declared.meta.MetaRow.{MetaRow}
use Rattle.table_store.specs.Schema.{tree_number}
use Rattle.table_store.specs.declared.name.TableName.TheVariants.{Meta}
use Rattle.table_store.proofs.Loading.{one_of_all}
use Rattle.desk_store.proofs.load.load_meta.Goals as goal

pub load_sheet-requires : goal.load_sheet-requires
load_sheet-requires g c clean = one_of_all Meta (state g.S.Store c.args.conn.now) (c.requires clean)

pub returns-in-Ok : goal.returns-in-Ok
returns-in-Ok g c =
    let old = state g.S.Store c.args.conn.now in
    meta-read old (state g.S.Store c.load_sheet.new.conn) c.as_slice.result.now
    (record { same = c.in-Ok.ensures.same; crash = c.load_sheet.ensures.crash })
    (λ clean. subst (λ (rows : List MetaRow).
    AreTheRows meta_from meta_columns (λ row. row.one ∷ []) Meta (old.now.trees (tree_number Meta)) rows)
    (sym c.as_slice.ensures.value)
    (record { loaded = c.in-Ok.ensures.loaded clean; its = c.in-Ok.ensures.rows clean number_digits meta-suits }))
    c.meta_in.result c.meta_in.ensures.alone c.meta_in.ensures.one c.meta_in.ensures.version c.meta_in.ensures.why

pub returns-in-Err : goal.returns-in-Err
returns-in-Err g c =
    let old = state g.S.Store c.args.conn.now in
    let new = state g.S.Store c.load_sheet.new.conn in
    record {
      gives = λ clean. tt;
      why =
          λ clean. subst (WhyBut IsOfOtherVersion old.now.trees) (sym c.from.ensures)
          (meta-unread old new c.in-Err.fault (c.in-Err.ensures.failed clean) c.in-Err.ensures.named);
      same = λ clean. tt;
      failed = λ clean. fails_to_load meta_from Meta old new c.in-Err.fault (c.in-Err.ensures.failed clean);
      crash = c.load_sheet.ensures.crash;
    }
