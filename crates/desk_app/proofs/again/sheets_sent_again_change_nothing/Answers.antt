use Rattle.desk_app.proofs.SheetsAgain.{sent_again}
use Rattle.desk_app.proofs.again.sheets_sent_again_change_nothing.Goals as goal

pub returns : goal.returns
returns c = sent_again c.lines_sent_again_end_alike.ensures c.lines_ask_under_keys.ensures.all
