use Rattle.sheet_core.proofs.Indexes.{IsIndex-empty}
use Rattle.sheet_core.specs.Indexed.{hashed}
use Rattle.sheet_core.proofs.indexed.IndexedSheet.with_room.Goals as goal

pub invariant_of-result : goal.invariant_of-result
invariant_of-result g c =
    IsIndex-empty (hashed c.args.seed g.R.Indexed.index_keys) g.R.Row.key_of c.in_ok-sheet.sheet c.new.result.filings.keys
    c.new.result.touched.items c.in_ok-sheet.ensures.rows c.in_ok-sheet.ensures.before c.new.ensures.filings
