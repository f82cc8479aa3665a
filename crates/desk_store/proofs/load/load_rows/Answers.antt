use Rattle.std.proofs.Common.{sym, subst}
use Rattle.sqlite.specs.Held.{state}
use Rattle.sheet_core.specs.RowKeys.{number_digits}
use Rattle.desk_store.specs.Opening.{WhyUnread}
use Rattle.desk_store.proofs.Breaking.{of-reading, why-broken}
use Rattle.desk_store.proofs.Readings.{fails_to_load}
use Rattle.table_store.proofs.Loading.{one_of_all}
use Rattle.desk_store.proofs.load.load_rows.Goals as goal

pub load_sheet-requires : goal.load_sheet-requires
load_sheet-requires g c clean =
    one_of_all c.args.table (state g.S.Store c.args.conn.now) (c.requires.tables clean)

pub returns-in-Err : goal.returns-in-Err
returns-in-Err g c =
    let old = state g.S.Store c.args.conn.now in
    let new = state g.S.Store c.load_sheet.new.conn in
    let trees = old.now.trees in
    record {
      gives = λ clean. tt;
      why = λ clean.
          subst (WhyUnread trees) (sym c.from.ensures)
          (why-broken trees c.args.table c.in-Err.fault
          (of-reading g.R.Stored.row_from c.args.table old new c.in-Err.fault (c.in-Err.ensures.failed clean))
          (λ bad. c.requires.breaks trees (c.in-Err.ensures.none clean number_digits c.requires.suits bad))
          c.in-Err.ensures.named);
      same = λ clean. tt;
      failed =
          λ clean.
          fails_to_load g.R.Stored.row_from c.args.table old new c.in-Err.fault (c.in-Err.ensures.failed clean);
      crash = c.load_sheet.ensures.crash;
    }
