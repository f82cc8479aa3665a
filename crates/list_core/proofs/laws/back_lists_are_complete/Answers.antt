use Rattle.list_core.proofs.Traced.{back_complete}
use Rattle.list_core.proofs.laws.back_lists_are_complete.Goals as goal

pub returns : goal.returns
returns c = back_complete
