use Rattle.std.proofs.Common.{arith, ◌∙◌}
use Rattle.sqlite.specs.Held.{state}
use Rattle.sqlite.specs.State.{HasCleanDisk}
use Rattle.table_store.proofs.Inside.{same_tables}
use Rattle.table_tests.proofs.tables.undone.Goals as goal

-- the second transaction begins where the first did
pub returns : goal.returns
returns g c clean =
    let clean-undone : HasCleanDisk (state g.S.Store c.rollback.new.conn) =
    omega (arith, clean, c.begin-2.ensures.crash.clean) in
    let clean-put : HasCleanDisk (state g.S.Store c.put_row.new.conn) =
    omega (arith, clean-undone, c.rollback.ensures.crash.clean) in
    let clean-begun : HasCleanDisk (state g.S.Store c.begin.new.conn) =
    omega (arith, clean-put, c.put_row.ensures.crash.clean) in
    let clean-old : HasCleanDisk (state g.S.Store c.args.conn.now) =
    omega (arith, clean-begun, c.begin.ensures.crash.clean) in
    let again = c.in_ok-begin-2.ensures.begun clean in
    let back = ((c.rollback.ensures.back clean-undone).undone again.was_open).0 in
    let first =
    (c.in_ok-put_row.ensures.put clean-put).shown.committed_is
    ∙ (c.in_ok-begin.ensures.begun clean-begun).committed_is in
    same_tables (state g.S.Store c.args.conn.now) (state g.S.Store c.begin-2.new.conn)
    (again.now_is ∙ back ∙ first ∙ c.requires.same clean-old) (c.requires.tables clean-old)
