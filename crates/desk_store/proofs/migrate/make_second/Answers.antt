use Rattle.std.proofs.Common.{arith}
use Rattle.sqlite.specs.Held.{state}
use Rattle.sqlite.specs.State.{HasCleanDisk}
use Rattle.desk_store.specs.MetaColumns.{only}
use Rattle.desk_store.proofs.Kept.{own_meta}
use Rattle.desk_store.proofs.Midway.{both_ok}
use Rattle.desk_store.proofs.Migrations.{are-second, small-row, still-row}
use Rattle.desk_store.proofs.Suiting.{meta-suits}
use Rattle.desk_store.proofs.migrate.make_second.Goals as goal

pub write_row-requires-clause-suits : goal.write_row-requires-clause-suits
write_row-requires-clause-suits g c = meta-suits

pub write_row-requires-clause-small : goal.write_row-requires-clause-small
write_row-requires-clause-small g c = small-row c.args.row c.requires.one c.requires.fits

pub returns-clause-second : goal.returns-clause-second
returns-clause-second g c clean =
    let d0 = state g.S.Store c.args.conn.now in
    let d1 = state g.S.Store c.make_spent.new.conn in
    let d2 = state g.S.Store c.write_row.new.conn in
    let clean1 : HasCleanDisk d1 = omega (arith, clean, c.write_row.ensures.crash.clean) in
    let clean0 : HasCleanDisk d0 = omega (arith, clean1, c.make_spent.ensures.crash.clean) in
    let old = c.requires.row clean0 in
    let second = c.in_ok-make_spent.ensures.second clean1 in
    both_ok c.write_row.result (are-second c.args.row d0 d1 d2 old second) (c.write_row.ensures.set clean)
    (c.write_row.ensures.put clean (only c.args.row) (own_meta c.args.row) (still-row c.args.row d0 d1 d2 old second))
