use Rattle.std.proofs.Common.{ap, inr}
use Rattle.invdesk.proofs.lines.check.Goals as goal

pub returns-in-Ok-clause-checks : goal.returns-in-Ok-clause-checks
returns-in-Ok-clause-checks g c =
    let untouched = rw c.deref.ensures.value at c.run_checked-end.ensures.untouched in
    let faults = rw c.deref.ensures.value at c.run_checked-end.ensures.faults in
    inr (
      c.in-Ok.bytes.items,
      record {
        faulty = λ h. (ap g.B.Books.state_in (untouched h), ap g.B.Books.failure_of (untouched h), faults h);
        done = rw c.deref.ensures.value at c.run_checked-end.ensures.done;
        stopped = rw c.deref.ensures.value at c.run_checked-end.ensures.stopped;
        were_open = c.run_checked-end.ensures.open;
        closed = c.run_checked-end.ensures.closed;
        left = c.run_checked-end.ensures.left;
      },
    )
