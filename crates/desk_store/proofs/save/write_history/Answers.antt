use Rattle.std.proofs.Common.{arith}
use Rattle.sqlite.specs.Held.{state}
use Rattle.sqlite.specs.State.{HasCleanDisk}
use Rattle.desk_core.specs.ShopView.{state_before, state_of}
use Rattle.desk_store.proofs.Midway.{both_ok, one_written}
use Rattle.desk_store.proofs.Sheets.{lent-history}
use Rattle.table_store.specs.Written.{tree_of}
use Rattle.table_store.specs.declared.name.TableName.TheVariants.{History}
use Rattle.desk_store.proofs.save.write_history.Goals as goal

pub write_log-requires-clause-ready : goal.write_log-requires-clause-ready
write_log-requires-clause-ready g c clean = (c.requires.under_way clean).ready

pub write_log-requires-clause-suits : goal.write_log-requires-clause-suits
write_log-requires-clause-suits g c =
    (lent-history c.args.shop.now c.requires.follows c.yard.result.now c.whole_history-history.result.now c.yard.ensures
    c.whole_history-history.ensures).suits

pub write_log-requires-clause-own : goal.write_log-requires-clause-own
write_log-requires-clause-own g c =
    (lent-history c.args.shop.now c.requires.follows c.yard.result.now c.whole_history-history.result.now c.yard.ensures
    c.whole_history-history.ensures).own.1

pub write_log-requires-clause-small : goal.write_log-requires-clause-small
write_log-requires-clause-small g c =
    (lent-history c.args.shop.now c.requires.follows c.yard.result.now c.whole_history-history.result.now c.yard.ensures
    c.whole_history-history.ensures).small.0

pub write_log-requires-clause-before : goal.write_log-requires-clause-before
write_log-requires-clause-before g c clean =
    (lent-history c.args.shop.now c.requires.follows c.yard.result.now c.whole_history-history.result.now c.yard.ensures
    c.whole_history-history.ensures).was (tree_of History (state g.S.Store c.args.conn.now))
    ((c.requires.under_way clean).midway.left History (omega arith))

pub returns : goal.returns
returns g c =
    let old = state_before c.args.shop.now in
    let new = state_of c.args.shop.now in
    let d = state g.S.Store c.args.conn.now in
    let e = state g.S.Store c.write_log.new.conn in
    let lent =
    (lent-history c.args.shop.now c.requires.follows c.yard.result.now c.whole_history-history.result.now c.yard.ensures
    c.whole_history-history.ensures) in
    record {
      under_way = λ clean.
          let clean0 : HasCleanDisk d = omega (arith, clean, c.write_log.ensures.crash.clean) in
          both_ok c.write_log.result
          (λ set written. one_written old new History d e (c.requires.under_way clean0) set
          (lent.is (tree_of History e) written))
          (c.write_log.ensures.set clean) (c.write_log.ensures.written clean);
      commit = c.write_log.ensures.commit;
      fault = c.write_log.ensures.fault;
      crash = c.write_log.ensures.crash;
    }
