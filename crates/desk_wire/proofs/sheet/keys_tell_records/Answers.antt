use Rattle.desk_wire.proofs.SheetKeys as keys
use Rattle.desk_wire.proofs.sheet.keys_tell_records.Goals as goal

pub returns : goal.returns
returns c = keys.keys_tell_records
