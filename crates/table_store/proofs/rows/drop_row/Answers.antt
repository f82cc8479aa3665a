use Rattle.std.proofs.Common.{arith, to_z-of_z}
use Rattle.sqlite.specs.Held.{state}
use Rattle.table_store.proofs.Inside.{as_before_or_undone}
use Rattle.table_store.proofs.Dropping.{drops_row, dropping_commits_nothing}
use Rattle.table_store.proofs.rows.drop_row.Goals as goal

pub returns-in-Ok-clause-gone : goal.returns-in-Ok-clause-gone
returns-in-Ok-clause-gone g c clean =
    drops_row c.args.table c.args.key (state g.S.Store c.args.conn.now) (state g.S.Store c.execute.new.self)
    c.in-Ok.field-0 c.requires.dropped
    (c.requires.inside (omega (arith, clean, c.execute.ensures.survives.clean)))
    (simp (to_z-of_z, c.ranges.key) at (rw (c.drop_text.ensures) at (c.in-Ok.ensures.runs clean)))

pub returns-in-Ok-clause-crash : goal.returns-in-Ok-clause-crash
returns-in-Ok-clause-crash g c =
    dropping_commits_nothing c.args.table c.args.key (state g.S.Store c.args.conn.now)
    (state g.S.Store c.execute.new.self) c.requires.dropped c.requires.inside
    (simp (to_z-of_z, c.ranges.key) at (rw (c.drop_text.ensures) at c.execute.ensures.survives))

pub returns-in-Err-clause-failed : goal.returns-in-Err-clause-failed
returns-in-Err-clause-failed g c clean =
    as_before_or_undone c.drop_text.result.now _ (state g.S.Store c.args.conn.now) (state g.S.Store c.execute.new.self)
    c.in-Err.error (c.in-Err.ensures.runs clean)

pub returns-in-Err-clause-crash : goal.returns-in-Err-clause-crash
returns-in-Err-clause-crash g c =
    dropping_commits_nothing c.args.table c.args.key (state g.S.Store c.args.conn.now)
    (state g.S.Store c.execute.new.self) c.requires.dropped c.requires.inside
    (simp (to_z-of_z, c.ranges.key) at (rw (c.drop_text.ensures) at c.execute.ensures.survives))
