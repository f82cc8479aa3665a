use Rattle.std.proofs.Common.{[], arith}
use Rattle.sqlite.specs.Held.{state}
use Rattle.table_store.proofs.Inside.{as_before_or_undone, keeps_commit}
use Rattle.table_store.proofs.Making.{adding_commits_nothing, adds_spent, second_tables}
use Rattle.table_store.proofs.create.add_spent.Goals as goal

pub returns-in-Ok-clause-made : goal.returns-in-Ok-clause-made
returns-in-Ok-clause-made g c clean =
    let had = c.requires (omega (arith, clean, c.execute.ensures.survives.clean)) in
    (adds_spent (state g.S.Store c.args.conn.now) (state g.S.Store c.execute.new.self) c.in-Ok.field-0 had.0 had.1
    (rw (c.create_text.ensures) at (c.in-Ok.ensures.runs clean))).0

pub returns-in-Ok-clause-tables : goal.returns-in-Ok-clause-tables
returns-in-Ok-clause-tables g c clean had =
    second_tables (state g.S.Store c.args.conn.now) (state g.S.Store c.execute.new.self) had
    (returns-in-Ok-clause-made g c clean)

pub returns-in-Ok-clause-kept : goal.returns-in-Ok-clause-kept
returns-in-Ok-clause-kept g c clean =
    let had = c.requires (omega (arith, clean, c.execute.ensures.survives.clean)) in
    (adds_spent (state g.S.Store c.args.conn.now) (state g.S.Store c.execute.new.self) c.in-Ok.field-0 had.0 had.1
    (rw (c.create_text.ensures) at (c.in-Ok.ensures.runs clean))).1

pub returns-in-Ok-clause-crash : goal.returns-in-Ok-clause-crash
returns-in-Ok-clause-crash g c =
    adding_commits_nothing (state g.S.Store c.args.conn.now) (state g.S.Store c.execute.new.self)
    c.requires (rw (c.create_text.ensures) at c.execute.ensures.survives)

pub returns-in-Err-clause-kept : goal.returns-in-Err-clause-kept
returns-in-Err-clause-kept g c clean =
    keeps_commit (state g.S.Store c.args.conn.now) (state g.S.Store c.execute.new.self)
    (as_before_or_undone c.create_text.result.now [] (state g.S.Store c.args.conn.now)
    (state g.S.Store c.execute.new.self) c.in-Err.error (c.in-Err.ensures.runs clean))

pub returns-in-Err-clause-crash : goal.returns-in-Err-clause-crash
returns-in-Err-clause-crash g c =
    adding_commits_nothing (state g.S.Store c.args.conn.now) (state g.S.Store c.execute.new.self)
    c.requires (rw (c.create_text.ensures) at c.execute.ensures.survives)
