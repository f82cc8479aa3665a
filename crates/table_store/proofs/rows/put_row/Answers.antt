use Rattle.std.proofs.Common.{arith}
use Rattle.sqlite.specs.Values.{bound}
use Rattle.sqlite.specs.Held.{state}
use Rattle.table_store.proofs.Inside.{as_before_or_undone}
use Rattle.table_store.proofs.Putting.{puts, putting_commits_nothing}
use Rattle.table_store.proofs.rows.put_row.Goals as goal

pub returns-in-Ok-clause-put : goal.returns-in-Ok-clause-put
returns-in-Ok-clause-put g c clean =
    puts c.args.table (bound c.args.values.now) (state g.S.Store c.args.conn.now) (state g.S.Store c.execute.new.self)
    c.in-Ok.field-0 c.requires.fits
    (c.requires.inside (omega (arith, clean, c.execute.ensures.survives.clean)))
    (rw (c.put_text.ensures) at (c.in-Ok.ensures.runs clean))

pub returns-in-Ok-clause-crash : goal.returns-in-Ok-clause-crash
returns-in-Ok-clause-crash g c =
    putting_commits_nothing c.args.table (bound c.args.values.now) (state g.S.Store c.args.conn.now)
    (state g.S.Store c.execute.new.self) c.requires.inside (rw (c.put_text.ensures) at c.execute.ensures.survives)

pub returns-in-Err-clause-failed : goal.returns-in-Err-clause-failed
returns-in-Err-clause-failed g c clean =
    as_before_or_undone c.put_text.result.now (bound c.args.values.now) (state g.S.Store c.args.conn.now)
    (state g.S.Store c.execute.new.self) c.in-Err.error (c.in-Err.ensures.runs clean)

pub returns-in-Err-clause-crash : goal.returns-in-Err-clause-crash
returns-in-Err-clause-crash g c =
    putting_commits_nothing c.args.table (bound c.args.values.now) (state g.S.Store c.args.conn.now)
    (state g.S.Store c.execute.new.self) c.requires.inside (rw (c.put_text.ensures) at c.execute.ensures.survives)
