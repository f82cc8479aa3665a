use Rattle.invdesk.proofs.desk_file.closed.Goals as goal

pub returns : goal.returns
returns c = record { told = c.end_of_work-end.ensures.told; alone = c.end_of_work-end.ensures.alone }
