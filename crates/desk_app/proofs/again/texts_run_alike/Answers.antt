use Rattle.desk_app.proofs.SheetsAgain as lines
use Rattle.desk_app.proofs.again.texts_run_alike.Goals as goal

pub returns : goal.returns
returns c = lines.texts_run_alike
