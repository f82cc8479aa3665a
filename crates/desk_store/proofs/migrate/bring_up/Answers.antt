use Rattle.std.proofs.Common.{arith, subst}
use Rattle.sqlite.specs.Effect.{Database}
use Rattle.sqlite.specs.Held.{state}
use Rattle.sqlite.specs.State.{HasCleanDisk}
use Rattle.desk_store.specs.Migrating.{AreSecond, WhyNotMigrated}
use Rattle.desk_store.proofs.Migrations.{brought-read, told-as, why-not-migrated, why-unread}
use Rattle.desk_store.proofs.migrate.bring_up.Goals as goal

pub returns-in_err-row-clause-why : goal.returns-in_err-row-clause-why
returns-in_err-row-clause-why g c clean =
    let trees = (state g.S.Store c.args.conn.now).now.trees in
    told-as (WhyNotMigrated trees) c.from_residual.result c.in_err-row.field-0.0 c.from_residual.ensures.1
    (why-not-migrated trees c.in_err-row.field-0.0 (c.in_err-row.ensures.row.why clean))

pub returns-clause-brought : goal.returns-clause-brought
returns-clause-brought g c clean =
    let a = state g.S.Store c.args.conn.now in
    let m = state g.S.Store c.load_old_row.new.conn in
    let d = state g.S.Store c.make_second.new.conn in
    let clean_d : HasCleanDisk d = omega (arith, clean, c.load.ensures.read.crash.clean) in
    let clean_m : HasCleanDisk m = omega (arith, clean_d, c.make_second.ensures.crash.clean) in
    let row = c.in_ok-row.row in
    let second =
    subst (λ (db : Database). AreSecond row db.trees d.now.trees) (c.in_ok-row.ensures.row.same clean_m).0.now_is
    (c.in_default.ensures.second clean_d) in
    brought-read a d (state g.S.Store c.load.new.conn) row (c.in_ok-row.ensures.row.gives clean_m) second
    (c.in_default.ensures.ready clean_d) clean c.load.result c.load.ensures.read

pub returns-clause-why : goal.returns-clause-why
returns-clause-why g c clean =
    let a = state g.S.Store c.args.conn.now in
    let m = state g.S.Store c.load_old_row.new.conn in
    let d = state g.S.Store c.make_second.new.conn in
    let clean_d : HasCleanDisk d = omega (arith, clean, c.load.ensures.read.crash.clean) in
    let clean_m : HasCleanDisk m = omega (arith, clean_d, c.make_second.ensures.crash.clean) in
    let row = c.in_ok-row.row in
    let second =
    subst (λ (db : Database). AreSecond row db.trees d.now.trees) (c.in_ok-row.ensures.row.same clean_m).0.now_is
    (c.in_default.ensures.second clean_d) in
    why-unread a d (state g.S.Store c.load.new.conn) row (c.in_ok-row.ensures.row.gives clean_m) second clean
    c.load.result c.load.ensures.read
