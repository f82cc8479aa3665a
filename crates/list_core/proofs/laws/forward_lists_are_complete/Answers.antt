use Rattle.list_core.proofs.Traced.{forward_complete}
use Rattle.list_core.proofs.laws.forward_lists_are_complete.Goals as goal

pub returns : goal.returns
returns c = forward_complete
