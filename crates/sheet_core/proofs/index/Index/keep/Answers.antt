use Rattle.sheet_core.proofs.Indexes.{IsIndex-keep}
use Rattle.sheet_core.specs.Indexed.{hashed}
use Rattle.sheet_core.proofs.index.Index.keep.Goals as goal

pub sweep-requires-clause-index : goal.sweep-requires-clause-index
sweep-requires-clause-index g c =
    IsIndex-keep (hashed c.args.seed.now g.R.Indexed.index_keys) g.R.Row.key_of c.args.sheet.now c.args.self.now.filings.keys
    c.args.self.now.touched.items c.requires c.keep.new.self c.keep.ensures.rows c.keep.ensures.before
