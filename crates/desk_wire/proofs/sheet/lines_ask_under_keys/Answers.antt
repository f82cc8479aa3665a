use Rattle.desk_wire.proofs.SheetReads as reads
use Rattle.desk_wire.proofs.SheetTexts as texts
use Rattle.desk_wire.proofs.sheet.lines_ask_under_keys.Goals as goal

pub returns : goal.returns
returns c = record { line = reads.lines_ask_under_keys; all = texts.sheets_ask_under_keys }
