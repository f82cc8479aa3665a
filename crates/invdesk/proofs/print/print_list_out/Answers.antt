use Rattle.invdesk.proofs.print.print_list_out.Goals as goal

pub returns : goal.returns
returns g c = (c.is_terminal.result, c.told_columns.result, c.print_of_list.ensures)
