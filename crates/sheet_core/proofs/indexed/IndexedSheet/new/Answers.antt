use Rattle.sheet_core.proofs.Indexes.{IsIndex-empty}
use Rattle.sheet_core.specs.Indexed.{hashed}
use Rattle.sheet_core.proofs.indexed.IndexedSheet.new.Goals as goal

pub invariant_of-result : goal.invariant_of-result
invariant_of-result g c =
    IsIndex-empty (hashed c.args.seed g.R.Indexed.index_keys) g.R.Row.key_of c.new.result c.new-2.result.filings.keys
    c.new-2.result.touched.items c.new.ensures.rows c.new.ensures.before c.new-2.ensures.filings
