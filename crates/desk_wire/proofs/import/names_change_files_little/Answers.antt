use Rattle.desk_wire.proofs.AlikeFiles as alike
use Rattle.desk_wire.proofs.import.names_change_files_little.Goals as goal

pub returns : goal.returns
returns c = alike.names_change_files_little
