use Rattle.desk_app.proofs.LinesAgain.{lines_end_alike}
use Rattle.desk_app.proofs.again.lines_sent_again_end_alike.Goals as goal

pub returns : goal.returns
returns c = lines_end_alike c.later_repeats_change_nothing.ensures
