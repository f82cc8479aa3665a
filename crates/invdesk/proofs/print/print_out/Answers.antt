use Rattle.invdesk.proofs.print.print_out.Goals as goal

pub returns-in-Ok : goal.returns-in-Ok
returns-in-Ok g c = (_, c.print-end.result, c.print-end.ensures, c.end_of_print.ensures)

pub returns-in-Err : goal.returns-in-Err
returns-in-Err g c = (_, c.print-end-in-Err.result, c.print-end-in-Err.ensures, c.end_of_print-in-Err.ensures)
