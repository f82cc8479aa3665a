use Rattle.desk_wire.proofs.SheetTexts as texts
use Rattle.desk_wire.proofs.sheet.sheets_are_lines.Goals as goal

pub returns : goal.returns
returns c = texts.sheets_are_lines
