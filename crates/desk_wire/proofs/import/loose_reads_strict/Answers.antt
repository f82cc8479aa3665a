use Rattle.desk_wire.proofs.LooseFiles as loose
use Rattle.desk_wire.proofs.import.loose_reads_strict.Goals as goal

pub returns : goal.returns
returns c = loose.loose_reads_strict
