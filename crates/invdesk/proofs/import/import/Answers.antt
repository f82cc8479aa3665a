use Rattle.std.proofs.Common.{inl, inr, refl}
use Rattle.invdesk.proofs.import.import.Goals as goal

pub returns-in-Ok-clause-imports : goal.returns-in-Ok-clause-imports
returns-in-Ok-clause-imports g c =
    inr (
      c.in-Ok.bytes.items,
      record {
        done = rw c.deref.ensures.value at c.import_file.ensures.done;
        stopped = rw c.deref.ensures.value at c.import_file.ensures.stopped;
        stays_open = c.import_file.ensures.stays_open;
        closed = c.import_file.ensures.closed;
        left = c.import_file.ensures.left;
        left_by_groups = rw c.deref.ensures.value at c.import_file.ensures.left_by_groups;
      },
    )

pub returns-in-Err-clause-imports : goal.returns-in-Err-clause-imports
returns-in-Err-clause-imports g c = inl (record {
  why = c.in-Err.ensures;
  same = refl;
  still = refl;
  left = λ unshut trees may. g.met.B.Books.leave_their_tables c.args.books.now c.requires unshut trees may;
})
