use Rattle.desk_core.proofs.InOrder.{in_order}
use Rattle.invdesk.proofs.serve.serve_on_file.Goals as goal

pub returns-clause-acts : goal.returns-clause-acts
returns-clause-acts c = (
  c.close_desk.ensures.0,
  record {
    before = c.in_ok-desk.desk;
    after = c.serve_on-desk.result.0;
    worked = c.serve_on-desk.result.1;
    is_open = c.in_ok-desk.ensures.open;
    comes = c.in_ok-desk.ensures.found;
    does = c.serve_on-desk.ensures.serves;
    in_order = in_order _ c.serve_on-desk.ensures.desk.sound;
    closed = c.close_desk.ensures.1;
  },
)
