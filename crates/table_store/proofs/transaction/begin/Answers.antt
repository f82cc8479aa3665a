use Rattle.std.proofs.Common.{Ok, Err, arith, subst, sym}
use Rattle.table_store.specs.Transactions.{StopsBy}
use Rattle.sqlite.specs.Held.{state}
use Rattle.sqlite.proofs.StateLemmas.{survives_weaker}
use Rattle.table_store.proofs.Inside.{same_old_tables, same_tables, begins, begins_nothing}
use Rattle.table_store.proofs.transaction.begin.Goals as goal

pub returns-in-Ok-clause-begun : goal.returns-in-Ok-clause-begun
returns-in-Ok-clause-begun g c clean =
    (begins (state g.S.Store c.args.conn.now) (state g.S.Store c.execute.new.self) (Ok c.in-Ok.field-0)
    (c.requires (omega (arith, c.execute.ensures.survives.clean))) (c.in-Ok.ensures.runs clean)).0

pub returns-in-Ok-clause-tables : goal.returns-in-Ok-clause-tables
returns-in-Ok-clause-tables g c clean has =
    same_tables (state g.S.Store c.args.conn.now) (state g.S.Store c.execute.new.self)
    (begins (state g.S.Store c.args.conn.now) (state g.S.Store c.execute.new.self) (Ok c.in-Ok.field-0)
    (c.requires (omega (arith, c.execute.ensures.survives.clean))) (c.in-Ok.ensures.runs clean)).0.now_is has

pub returns-in-Ok-clause-old_tables : goal.returns-in-Ok-clause-old_tables
returns-in-Ok-clause-old_tables g c clean has =
    same_old_tables (state g.S.Store c.args.conn.now) (state g.S.Store c.execute.new.self)
    (begins (state g.S.Store c.args.conn.now) (state g.S.Store c.execute.new.self) (Ok c.in-Ok.field-0)
    (c.requires (omega (arith, c.execute.ensures.survives.clean))) (c.in-Ok.ensures.runs clean)).0.now_is has

pub returns-in-Ok-clause-crash : goal.returns-in-Ok-clause-crash
returns-in-Ok-clause-crash g c =
    survives_weaker (state g.S.Store c.args.conn.now) (state g.S.Store c.execute.new.self) _ _
    (λ _ db commits. begins_nothing _ db commits) c.execute.ensures.survives

pub returns-in-Err-clause-stopped : goal.returns-in-Err-clause-stopped
returns-in-Err-clause-stopped g c clean =
    subst (StopsBy (state g.S.Store c.args.conn.now) (state g.S.Store c.execute.new.self)) (sym c.new.ensures)
    (begins (state g.S.Store c.args.conn.now) (state g.S.Store c.execute.new.self) (Err c.in-Err.error)
    (c.requires (omega (arith, c.execute.ensures.survives.clean))) (c.in-Err.ensures.runs clean)).1

pub returns-in-Err-clause-crash : goal.returns-in-Err-clause-crash
returns-in-Err-clause-crash g c =
    survives_weaker (state g.S.Store c.args.conn.now) (state g.S.Store c.execute.new.self) _ _
    (λ _ db commits. begins_nothing _ db commits) c.execute.ensures.survives
