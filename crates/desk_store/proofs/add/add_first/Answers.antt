use Rattle.std.proofs.Common.{arith}
use Rattle.sqlite.specs.Held.{state}
use Rattle.sqlite.specs.State.{HasCleanDisk}
use Rattle.desk_core.specs.ShopView.{state_before}
use Rattle.desk_store.proofs.Midway.{undone}
use Rattle.desk_store.proofs.add.add_first.Goals as goal

pub returns-in_ok-rollback-in-Err-Memory-clause-memory : goal.returns-in_ok-rollback-in-Err-Memory-clause-memory
returns-in_ok-rollback-in-Err-Memory-clause-memory g c clean same =
    let d0 = state g.S.Store c.args.conn.now in
    let d1 = state g.S.Store c.begin_with.new.conn in
    let d2 = state g.S.Store c.rollback.new.conn in
    let clean1 : HasCleanDisk d1 = omega (arith, clean, c.rollback.ensures.crash.clean) in
    let clean0 : HasCleanDisk d0 = omega (arith, clean1, c.begin_with.ensures.crash.clean) in
    undone (state_before c.args.shop.now) d0 d1 d2
    (λ db up may. g.met.S.Store.settled c.rollback.new.conn.store db up may) (c.requires.books clean0)
    (c.begin_with.ensures.commit clean1)
    (c.rollback.ensures.back clean) (c.in_ok-rollback-in-Err-Memory.ensures.open clean)
