use Rattle.desk_app.proofs.SentAgain.{sent_again}
use Rattle.desk_app.proofs.again.files_sent_again_change_nothing.Goals as goal

pub returns : goal.returns
returns c = sent_again c.later_repeats_change_nothing.ensures
