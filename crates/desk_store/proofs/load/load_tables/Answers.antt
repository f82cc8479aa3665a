use Rattle.sqlite.specs.Held.{state}
use Rattle.desk_store.proofs.Loads.{tables-read, tables-unread}
use Rattle.desk_store.proofs.load.load_tables.Goals as goal

pub returns-in-Ok : goal.returns-in-Ok
returns-in-Ok g c =
    let told = c.in-Ok.ensures in
    let found = c.in_ok-row.ensures in
    tables-read (state g.S.Store c.args.conn.now) (state g.S.Store c.load_counter.new.conn)
    (state g.S.Store c.load_sheets.new.conn) _ found.row c.in-Ok.tables told.sheets told.next told.entries told.limits
    found.numbers found.entries

pub returns-in-Err : goal.returns-in-Err
returns-in-Err g c =
    tables-unread (state g.S.Store c.args.conn.now) (state g.S.Store c.load_counter.new.conn)
    (state g.S.Store c.load_sheets.new.conn) _ c.in_ok-row.ensures.row c.in-Err.fault c.in-Err.ensures.sheets
