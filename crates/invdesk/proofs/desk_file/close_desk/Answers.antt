use Rattle.invdesk.proofs.desk_file.close_desk.Goals as goal

pub returns : goal.returns
returns c = (c.closed-end.result.1, c.closed-end.ensures)
