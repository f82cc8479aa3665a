use Rattle.sqlite.specs.Held.{state}
use Rattle.sqlite.specs.State.{HasCleanDisk, KeepsCommit, Survives}
use Rattle.desk_core.specs.ShopView.{state_before, state_of}
use Rattle.desk_store.specs.Saving.{IsUnderWay}
use Rattle.desk_store.proofs.save.write_further.Given as goal

-- the tables whose turn was before are written, and nothing is committed
abbrev pub invariant-loop-turn : goal.invariant-loop-turn
invariant-loop-turn g l =
    let old = state g.S.Store l.fn.conn in
    let now = state g.S.Store l.conn in
    record {
      crash : Survives old now (λ _. ⊥);
      commit : HasCleanDisk now → KeepsCommit old now;
      under_way : HasCleanDisk now → IsUnderWay (state_before l.shop) (state_of l.shop) l.turn now;
    }
