use Rattle.sqlite.specs.Held.{state}
use Rattle.sqlite.proofs.StateLemmas.{survives_weaker}
use Rattle.table_store.proofs.Inside.{nothing_changes, nothing_commits, as_before_or_undone}
use Rattle.table_store.proofs.transaction.still_answers.Goals as goal

pub returns-in-Ok-clause-same : goal.returns-in-Ok-clause-same
returns-in-Ok-clause-same g c clean =
    nothing_changes (state g.S.Store c.args.conn.now) (state g.S.Store c.execute.new.self) c.in-Ok.field-0
    (c.in-Ok.ensures.runs clean)

pub returns-in-Ok-clause-crash : goal.returns-in-Ok-clause-crash
returns-in-Ok-clause-crash g c =
    survives_weaker (state g.S.Store c.args.conn.now) (state g.S.Store c.execute.new.self) _ _
    (λ _ db commits. nothing_commits _ db commits) c.execute.ensures.survives

pub returns-in-Err-clause-failed : goal.returns-in-Err-clause-failed
returns-in-Err-clause-failed g c clean =
    as_before_or_undone _ _ (state g.S.Store c.args.conn.now) (state g.S.Store c.execute.new.self) c.in-Err.error
    (c.in-Err.ensures.runs clean)

pub returns-in-Err-clause-crash : goal.returns-in-Err-clause-crash
returns-in-Err-clause-crash g c =
    survives_weaker (state g.S.Store c.args.conn.now) (state g.S.Store c.execute.new.self) _ _
    (λ _ db commits. nothing_commits _ db commits) c.execute.ensures.survives
