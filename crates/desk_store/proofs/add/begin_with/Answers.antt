use Rattle.std.proofs.Common.{true, arith}
use Rattle.sqlite.specs.Held.{state}
use Rattle.sqlite.specs.State.{HasCleanDisk}
use Rattle.desk_core.specs.ShopView.{state_before, state_of}
use Rattle.desk_store.proofs.Grouping.{goes_after, goes_nowhere}
use Rattle.desk_store.proofs.Midway.{begun, keeps_failed, keeps_shown}
use Rattle.desk_store.proofs.Starting.{of_store}
use Rattle.desk_store.proofs.add.begin_with.Goals as goal

pub begin-requires : goal.begin-requires
begin-requires g c clean = (c.requires.books clean).rest.free

pub write_further-requires-clause-under_way : goal.write_further-requires-clause-under_way
write_further-requires-clause-under_way g c clean =
    let d0 = state g.S.Store c.args.conn.now in
    let clean0 : HasCleanDisk d0 = omega (arith, clean, c.begin.ensures.crash.clean) in
    let holds = c.requires.books clean0 in
    begun (state_before c.args.shop.now) (state_of c.args.shop.now) d0 (state g.S.Store c.begin.new.conn) holds
    (c.in_ok-begin.ensures.begun clean) (c.in_ok-begin.ensures.tables clean holds.tables)

pub returns-in_err-begin : goal.returns-in_err-begin
returns-in_err-begin g c =
    goes_nowhere (state_before c.args.shop.now) (state_of c.args.shop.now) 13 (state g.S.Store c.args.conn.now)
    (state g.S.Store c.begin.new.conn) c.from_residual.result c.in_err-begin.field-0.0 c.from_residual.ensures.1
    (of_store c.in_err-begin.field-0.0 c.in_err-begin.ensures.fault)
    (λ clean. keeps_failed (state g.S.Store c.args.conn.now) (state g.S.Store c.begin.new.conn) _
    (c.in_err-begin.ensures.stopped clean))
    c.begin.ensures.crash

pub returns : goal.returns
returns g c =
    let d0 = state g.S.Store c.args.conn.now in
    let d1 = state g.S.Store c.begin.new.conn in
    goes_after (state_before c.args.shop.now) (state_of c.args.shop.now) 13 d0 d1
    (state g.S.Store c.write_further.new.conn) c.write_further.result c.begin.ensures.crash
    (λ clean. keeps_shown d0 d1 d0.now true (c.in_ok-begin.ensures.begun clean)) c.write_further.ensures
