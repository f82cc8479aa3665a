use Rattle.desk_app.proofs.SheetsAgain as lines
use Rattle.desk_app.proofs.again.texts_are_lines.Goals as goal

pub returns : goal.returns
returns c = lines.texts_are_lines c.sheets_are_lines.ensures
