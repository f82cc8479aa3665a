use Rattle.std.proofs.Common.{inl, refl, arith}
use Rattle.sqlite.specs.Held.{state}
use Rattle.sheet_core.specs.RowKeys.{number_digits}
use Rattle.desk_store.proofs.Olds.{bad-read, none-read, old-meta, old-read, other-read}
use Rattle.desk_store.proofs.Suiting.{meta-suits}
use Rattle.desk_store.proofs.old.load_old_rows.Goals as goal

pub load_sheet-requires : goal.load_sheet-requires
load_sheet-requires g c clean = old-meta (state g.S.Store c.args.conn.now) (c.requires.tables clean)

pub returns-in-Err-BadRow : goal.returns-in-Err-BadRow
returns-in-Err-BadRow g c =
    let old = state g.S.Store c.args.conn.now in
    let bad =
    bad-read old (state g.S.Store c.load_sheet.new.conn) c.in-Err-BadRow.field-0 c.in-Err-BadRow.field-0-0
    c.in-Err-BadRow.field-0-is in
    record {
      gives = λ _. tt;
      why = λ clean.
          none-read old.now.trees (c.requires.listed (omega (arith, clean, c.load_sheet.ensures.crash.clean)))
          (bad (c.in-Err-BadRow.ensures.failed clean)).0;
      same = λ _. tt;
      failed = λ clean. inl (bad (c.in-Err-BadRow.ensures.failed clean)).1;
      crash = c.load_sheet.ensures.crash;
    }

pub returns-then-not-are_old : goal.returns-then-not-are_old
returns-then-not-are_old g c =
    other-read (state g.S.Store c.args.conn.now) (state g.S.Store c.load_sheet.new.conn)
    (record { same = c.in-Ok.ensures.same; crash = c.load_sheet.ensures.crash })
    c.requires.listed c.in-Ok.rows c.as_slice.result.now c.as_slice.ensures.value
    (λ clean. record {
      loaded = c.in-Ok.ensures.loaded clean;
      its = c.in-Ok.ensures.rows clean number_digits meta-suits;
    })
    (c.if-not-are_old.ensures.other refl)

pub returns : goal.returns
returns g c =
    old-read (state g.S.Store c.args.conn.now) (state g.S.Store c.load_sheet.new.conn)
    (record { same = c.in-Ok.ensures.same; crash = c.load_sheet.ensures.crash })
    c.requires.listed c.in-Ok.rows c.as_slice.result.now c.as_slice.ensures.value
    (λ clean. record {
      loaded = c.in-Ok.ensures.loaded clean;
      its = c.in-Ok.ensures.rows clean number_digits meta-suits;
    })
    (c.if-not-are_old.ensures.old refl)
