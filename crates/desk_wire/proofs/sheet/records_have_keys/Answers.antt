use Rattle.desk_wire.proofs.SheetKeys as keys
use Rattle.desk_wire.proofs.sheet.records_have_keys.Goals as goal

pub returns : goal.returns
returns c = keys.records_have_keys
