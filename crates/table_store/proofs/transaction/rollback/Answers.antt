use Rattle.std.proofs.Common.{Ok, Err, ◌≡◌, Bool, true, false, not, true≢false, IsTrue, refl, sym, ◌∙◌, arith}
use Rattle.sqlite.specs.Held.{state}
use Rattle.sqlite.specs.State.{HasCleanDisk}
use Rattle.sqlite.proofs.StateLemmas.{survives_weaker, survives_then}
use Rattle.table_store.proofs.Inside.{rolls_back, rolls_nothing, is_back, undone_then, unchanged_or_undone}
use Rattle.table_store.proofs.transaction.rollback.Goals as goal

is_inside : (b : Bool) → not b ≡ false → IsTrue b
is_inside true h = refl
is_inside false h = absurd (true≢false h)

pub returns-in-Ok-clause-undone : goal.returns-in-Ok-clause-undone
returns-in-Ok-clause-undone g c clean inside =
    let old = state g.S.Store c.args.conn.now in
    let mid = state g.S.Store c.execute.new.self in
    let new = state g.S.Store c.still_answers-in-Ok.new.conn in
    let before : HasCleanDisk mid = omega (arith, clean, c.still_answers-in-Ok.ensures.crash.clean) in
    undone_then old mid new (rolls_back old mid (Ok c.in-Ok.field-0) inside (c.in-Ok.ensures.runs before))
    (unchanged_or_undone c.still_answers-in-Ok.result mid new (c.still_answers-in-Ok.ensures.same clean)
    (c.still_answers-in-Ok.ensures.failed clean))

pub returns-in-Ok-clause-back : goal.returns-in-Ok-clause-back
returns-in-Ok-clause-back g c clean =
    is_back _ _
    (returns-in-Ok-clause-undone g c clean (is_inside _ (sym c.is_autocommit.ensures.value ∙ c.if-is_autocommit.false)))

pub returns-in-Ok-clause-crash : goal.returns-in-Ok-clause-crash
returns-in-Ok-clause-crash g c =
    let old = state g.S.Store c.args.conn.now in
    let mid = state g.S.Store c.execute.new.self in
    let new = state g.S.Store c.still_answers-in-Ok.new.conn in
    survives_then old mid new (λ _. ⊥) (λ _. ⊥) (λ _. ⊥) (λ _ db h. h) (λ _ db h. h)
    (survives_weaker old mid _ _ (λ _ db h. rolls_nothing _ db h) c.execute.ensures.survives)
    c.still_answers-in-Ok.ensures.crash

pub returns-in-Err-clause-undone : goal.returns-in-Err-clause-undone
returns-in-Err-clause-undone g c clean inside =
    rolls_back (state g.S.Store c.args.conn.now) (state g.S.Store c.execute.new.self) (Err c.in-Err.error) inside
    (c.in-Err.ensures.runs clean)

pub returns-in-Err-clause-back : goal.returns-in-Err-clause-back
returns-in-Err-clause-back g c clean =
    is_back _ _ (returns-in-Err-clause-undone g c clean
    (is_inside _ (sym c.is_autocommit.ensures.value ∙ c.if-is_autocommit.false)))

pub returns-in-Err-clause-crash : goal.returns-in-Err-clause-crash
returns-in-Err-clause-crash g c =
    survives_weaker (state g.S.Store c.args.conn.now) (state g.S.Store c.execute.new.self) _ _
    (λ _ db h. rolls_nothing _ db h) c.execute.ensures.survives
