use Rattle.std.proofs.Common.{arith}
use Rattle.sqlite.specs.Held.{state}
use Rattle.table_store.proofs.Loading.{loads_table, loading_changes_nothing, loading_fails, loading_commits_nothing}
use Rattle.table_store.proofs.rows.load_rows.Goals as goal

pub returns-in-Ok-clause-loaded : goal.returns-in-Ok-clause-loaded
returns-in-Ok-clause-loaded g c clean =
    loads_table c.args.table (state g.S.Store c.args.conn.now) (state g.S.Store c.query_all.new.self) c.in-Ok.rows.items
    (c.requires (omega (arith, clean, c.query_all.ensures.survives.clean)))
    (rw (c.load_text.ensures) at (c.in-Ok.ensures.ok clean))

pub returns-in-Ok-clause-same : goal.returns-in-Ok-clause-same
returns-in-Ok-clause-same g c clean =
    loading_changes_nothing c.args.table (state g.S.Store c.args.conn.now) (state g.S.Store c.query_all.new.self)
    c.in-Ok.rows.items (c.requires (omega (arith, clean, c.query_all.ensures.survives.clean)))
    (rw (c.load_text.ensures) at (c.in-Ok.ensures.ok clean))

pub returns-in-Ok-clause-crash : goal.returns-in-Ok-clause-crash
returns-in-Ok-clause-crash g c =
    loading_commits_nothing c.args.table (state g.S.Store c.args.conn.now) (state g.S.Store c.query_all.new.self)
    c.requires (rw (c.load_text.ensures) at c.query_all.ensures.survives)

pub returns-in-Err-clause-crash : goal.returns-in-Err-clause-crash
returns-in-Err-clause-crash g c =
    loading_commits_nothing c.args.table (state g.S.Store c.args.conn.now) (state g.S.Store c.query_all.new.self)
    c.requires (rw (c.load_text.ensures) at c.query_all.ensures.survives)

pub returns-in-Err-clause-failed : goal.returns-in-Err-clause-failed
returns-in-Err-clause-failed g c clean =
    loading_fails c.args.table (state g.S.Store c.args.conn.now) (state g.S.Store c.query_all.new.self) c.in-Err.error
    (c.requires (omega (arith, clean, c.query_all.ensures.survives.clean)))
    (rw (c.load_text.ensures) at (c.in-Err.ensures.err clean))
