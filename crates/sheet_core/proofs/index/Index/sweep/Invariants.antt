use Rattle.std.proofs.Common.{length}
use Rattle.sheet_core.specs.Index.{IsIndex}
use Rattle.sheet_core.specs.Indexed.{hashed}
use Rattle.sheet_core.proofs.index.Index.sweep.Given as goal

abbrev pub invariant-loop-filing : goal.invariant-loop-filing
invariant-loop-filing g l =
    IsIndex (hashed l.seed g.R.Indexed.index_keys) g.R.Row.key_of l.sheet l.self.filings.keys l.self.touched.items

abbrev pub decreases-loop-filing : goal.decreases-loop-filing
decreases-loop-filing g l = length l.self.touched.items
