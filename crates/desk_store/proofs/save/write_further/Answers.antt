use Rattle.std.proofs.Common.{refl, ◌+◌, sym, subst, arith}
use Rattle.sqlite.specs.Held.{state}
use Rattle.sqlite.specs.State.{HasCleanDisk}
use Rattle.sqlite.proofs.StateLemmas.{survives_then}
use Rattle.desk_core.specs.ShopView.{state_before, state_of}
use Rattle.desk_store.specs.Saving.{IsUnderWay}
use Rattle.desk_store.proofs.Midway.{goes_fault, keeps_then, next_turn, survives_same}
use Rattle.desk_store.proofs.save.write_further.Goals as goal

pub loop-turn-init : goal.loop-turn-init
loop-turn-init g c =
    let d = state g.S.Store c.args.conn.now in
    record {
      crash = survives_same d;
      commit = λ clean. record { was_open = λ up. up; committed = λ up. refl };
      under_way = c.requires.under_way;
    }

pub write_table-requires-clause-under_way : goal.write_table-requires-clause-under_way
write_table-requires-clause-under_way g c clean =
    subst
    (λ n. IsUnderWay (state_before c.args.shop.now) (state_of c.args.shop.now) n (state g.S.Store c.loop-turn.conn))
    (sym (next_turn c.at.result c.loop-turn.turn c.at.ensures)) (c.loop-turn.invariant.under_way clean)

pub loop-turn-preserved : goal.loop-turn-preserved
loop-turn-preserved g c =
    let d = state g.S.Store c.args.conn.now in
    let m = state g.S.Store c.loop-turn.conn in
    let e = state g.S.Store c.write_table.new.conn in
    let went = c.in_ok-write_table.ensures in
    record {
      crash =
          survives_then d m e (λ _. ⊥) (λ _. ⊥) (λ _. ⊥) (λ _ db h. h) (λ _ db h. h)
          c.loop-turn.invariant.crash went.crash;
      commit = λ clean.
          let before : HasCleanDisk m = omega (arith, clean, went.crash.clean) in
          keeps_then d m e (c.loop-turn.invariant.commit before) (went.commit clean);
      under_way =
          λ clean. subst (λ n. IsUnderWay (state_before c.args.shop.now) (state_of c.args.shop.now) (n + 1) e)
          (next_turn c.at.result c.loop-turn.turn c.at.ensures) (went.under_way clean);
    }

pub returns-in_err-write_table : goal.returns-in_err-write_table
returns-in_err-write_table g c =
    goes_fault (state_before c.args.shop.now) (state_of c.args.shop.now) _ 13 (state g.S.Store c.args.conn.now)
    (state g.S.Store c.loop-turn.conn) (state g.S.Store c.write_table.new.conn) c.from_residual.result
    c.in_err-write_table.field-0.0
    c.from_residual.ensures.1 c.loop-turn.invariant.crash c.loop-turn.invariant.commit c.in_err-write_table.ensures
