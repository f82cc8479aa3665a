use Rattle.desk_store.proofs.CutShort.{cut_dumps_commit_nothing}
use Rattle.desk_store.proofs.laws.cut_dumps_commit_nothing.Goals as goal

pub returns : goal.returns
returns c = cut_dumps_commit_nothing
