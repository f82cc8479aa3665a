use Rattle.std.proofs.Common.{inr}
use Rattle.invdesk.proofs.desk_file.taken.Goals as goal

pub returns-in-Ok-clause-found : goal.returns-in-Ok-clause-found
returns-in-Ok-clause-found c =
    (c.in_ok-conn.conn, record { new = c.in-Ok.ensures.new; found = c.in-Ok.ensures.found; one = c.in-Ok.ensures.one })

pub returns-in-Err-clause-none : goal.returns-in-Err-clause-none
returns-in-Err-clause-none c =
    inr (
      c.in_ok-conn.conn,
      c.in-Err.database,
      record {
        unmade = c.in-Err.ensures.unmade;
        why = c.in-Err.ensures.why;
        kept = c.in-Err.ensures.kept;
        crash = c.in-Err.ensures.crash;
      },
    )
