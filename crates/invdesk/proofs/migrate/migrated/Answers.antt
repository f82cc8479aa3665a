use Rattle.std.proofs.Common.{inr}
use Rattle.invdesk.proofs.migrate.migrated.Goals as goal

pub returns-in-Ok-clause-found : goal.returns-in-Ok-clause-found
returns-in-Ok-clause-found c = (c.in_ok-conn.conn, record { found = c.in-Ok.ensures.found; one = c.in-Ok.ensures.one })

pub returns-in-Err-clause-none : goal.returns-in-Err-clause-none
returns-in-Err-clause-none c =
    inr (
      c.in_ok-conn.conn,
      c.in-Err.database,
      record {
        why = c.in-Err.ensures.why;
        kept = c.in-Err.ensures.kept;
        crash = c.in-Err.ensures.crash;
      },
    )
