use Rattle.std.proofs.Common.{arith}
use Rattle.sqlite.specs.Held.{state}
use Rattle.sqlite.specs.State.{HasCleanDisk}
use Rattle.desk_core.specs.ShopView.{state_before, state_of}
use Rattle.desk_store.proofs.Midway.{both_ok, one_written}
use Rattle.table_store.specs.Written.{tree_of}
use Rattle.desk_store.proofs.save.write_sheet.Goals as goal

pub write_pending-requires-clause-ready : goal.write_pending-requires-clause-ready
write_pending-requires-clause-ready g c clean = (c.requires.under_way clean).ready

pub write_pending-requires-clause-suits : goal.write_pending-requires-clause-suits
write_pending-requires-clause-suits g c = c.requires.sheet.suits

pub write_pending-requires-clause-own : goal.write_pending-requires-clause-own
write_pending-requires-clause-own g c = c.requires.sheet.own

pub write_pending-requires-clause-small : goal.write_pending-requires-clause-small
write_pending-requires-clause-small g c = c.requires.sheet.small

pub write_pending-requires-clause-stays : goal.write_pending-requires-clause-stays
write_pending-requires-clause-stays g c = c.requires.sheet.stays

pub write_pending-requires-clause-before : goal.write_pending-requires-clause-before
write_pending-requires-clause-before g c clean =
    c.requires.sheet.was (tree_of c.args.table (state g.S.Store c.args.conn.now))
    ((c.requires.under_way clean).midway.left c.args.table (omega arith))

pub returns : goal.returns
returns g c =
    let old = state_before c.args.shop.now in
    let new = state_of c.args.shop.now in
    let d = state g.S.Store c.args.conn.now in
    let e = state g.S.Store c.write_pending.new.conn in
    record {
      under_way = λ clean.
          let clean0 : HasCleanDisk d = omega (arith, clean, c.write_pending.ensures.crash.clean) in
          both_ok c.write_pending.result
          (λ set written. one_written old new c.args.table d e (c.requires.under_way clean0) set
          (c.requires.sheet.is (tree_of c.args.table e) written))
          (c.write_pending.ensures.set clean) (c.write_pending.ensures.written clean);
      commit = c.write_pending.ensures.commit;
      fault = c.write_pending.ensures.fault;
      crash = c.write_pending.ensures.crash;
    }
