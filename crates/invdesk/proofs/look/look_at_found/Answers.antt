use Rattle.std.proofs.Common.{◌∙◌, inl, Ok, ap, refl, sym}
use Rattle.desk_core.proofs.InOrder.{in_order}
use Rattle.invdesk.proofs.look.look_at_found.Goals as goal

pub returns : goal.returns
returns c =
    let opened =
    sym c.is_to_be_looked_at.ensures ∙ c.in_ok-is_to_be_looked_at.was ∙ ap Ok c.if-not-branch.false in
    inl (
      opened,
      (
        c.closed-end.result.1,
        record {
          before = c.in_ok-desk.desk;
          after = c.in_ok-desk.desk;
          worked = c.print_out-end.result;
          is_open = c.in_ok-desk.ensures.open;
          comes = c.in_ok-desk.ensures.found;
          does = (refl, c.print_out-end.ensures);
          in_order = in_order _ c.in_ok-desk.ensures.desk.sound;
          closed = c.closed-end.ensures;
        },
      ),
    )
