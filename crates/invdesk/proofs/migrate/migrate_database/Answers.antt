use Rattle.std.proofs.Common.{refl}
use Rattle.desk_core.proofs.InOrder.{in_order}
use Rattle.invdesk.proofs.migrate.migrate_database.Goals as goal

pub returns-clause-acts : goal.returns-clause-acts
returns-clause-acts c = (
  c.close_desk.ensures.0,
  record {
    before = c.in_ok-desk.desk;
    after = c.in_ok-desk.desk;
    worked = c.print_moved-end.result;
    is_open = c.in_ok-desk.ensures.open;
    comes = c.in_ok-desk.ensures.found;
    does = (refl, c.print_moved-end.ensures);
    in_order = in_order _ c.in_ok-desk.ensures.desk.sound;
    closed = c.close_desk.ensures.1;
  },
)
