use Rattle.std.proofs.Common.{inl, inr, arith}
use Rattle.sqlite.specs.Held.{state}
use Rattle.sqlite.specs.State.{HasCleanDisk}
use Rattle.sqlite_trees.specs.View.{doubt}
use Rattle.table_store.proofs.Opening.{harmless_by}
use Rattle.table_store.proofs.open.at_rest.Goals as goal

pub returns-in-Err-clause-harmless : goal.returns-in-Err-clause-harmless
returns-in-Err-clause-harmless g c =
    let database = c.given_back.result in
    harmless_by g.S.Store.view g.S.Store.recovers c.opened.result (doubt (g.S.Store.view database).is_clean)
    (g.S.Store.recovers database) (state g.S.Store c.args.conn).may_leave
    c.opened.ensures.unspoilt c.opened.ensures.harmless
    (λ unspoilt trees h.
    let clean : HasCleanDisk (state g.S.Store c.rollback.new.conn) =
    omega (arith, unspoilt, c.given_back.ensures.clean) in
    elim (c.rollback.ensures.crash.crash clean trees (c.given_back.ensures.left trees h)) [
      | inl before ↦ before
      | inr never ↦ absurd never
    ])
