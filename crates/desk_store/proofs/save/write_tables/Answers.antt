use Rattle.std.proofs.Common.{refl}
use Rattle.sqlite.specs.Held.{state}
use Rattle.desk_core.specs.ShopView.{state_before, state_of}
use Rattle.desk_store.proofs.Grouping.{goes_after}
use Rattle.desk_store.proofs.Midway.{goes_fault, survives_same}
use Rattle.desk_store.proofs.save.write_tables.Goals as goal

pub write_counter-requires-clause-small : goal.write_counter-requires-clause-small
write_counter-requires-clause-small g c = c.requires.follows.counted

pub returns-in_err-write_further : goal.returns-in_err-write_further
returns-in_err-write_further g c =
    let d = state g.S.Store c.args.conn.now in
    goes_fault (state_before c.args.shop.now) (state_of c.args.shop.now) 13 14 d d
    (state g.S.Store c.write_further.new.conn) c.from_residual.result c.in_err-write_further.field-0.0
    c.from_residual.ensures.1 (survives_same d) (λ clean. record { was_open = λ up. up; committed = λ up. refl })
    c.in_err-write_further.ensures

pub returns : goal.returns
returns g c =
    goes_after (state_before c.args.shop.now) (state_of c.args.shop.now) 14 (state g.S.Store c.args.conn.now)
    (state g.S.Store c.write_further.new.conn) (state g.S.Store c.write_counter.new.conn) c.write_counter.result
    c.write_further.ensures.crash c.write_further.ensures.commit c.write_counter.ensures
