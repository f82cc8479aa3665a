use Rattle.desk_core.proofs.InOrder.{in_order}
use Rattle.invdesk.proofs.import.import_sheet_to_file.Goals as goal

pub returns-clause-acts : goal.returns-clause-acts
returns-clause-acts c = (
  c.close_desk.ensures.0,
  record {
    before = c.in_ok-desk.desk;
    after = c.sheet_on-desk.result.0;
    worked = c.sheet_on-desk.result.1;
    is_open = c.in_ok-desk.ensures.open;
    comes = c.in_ok-desk.ensures.found;
    does = c.sheet_on-desk.ensures.imports;
    in_order = in_order _ c.sheet_on-desk.ensures.desk.sound;
    closed = c.close_desk.ensures.1;
  },
)
