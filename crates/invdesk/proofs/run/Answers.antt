use Rattle.std.proofs.Common.{inl, inr}
use Rattle.invdesk.proofs.run.Goals as goal

pub returns-in-Err : goal.returns-in-Err
returns-in-Err c = (c.in-Err.task, inr c.in-Err.ensures, c.status_for.ensures)

pub returns : goal.returns
returns c =
    (c.read_words-task.result, inl (_, c.read_words-task.ensures.answers), c.status_for-status.ensures)
