use Rattle.std.proofs.Common.{◌≡◌, ◌<◌, ℕ, true, get_or}
use Rattle.sheet_core.specs.Index.{IsGrown, is_filed}
use Rattle.sheet_core.specs.Indexed.{hashed}
use Rattle.sheet_core.proofs.index.Index.file.Given as goal

-- the number is filed under each key so far
abbrev pub invariant-loop-place : goal.invariant-loop-place
invariant-loop-place g l =
    record {
      grown : IsGrown l.fn.self.filings.keys l.fn.self.touched.items l.self.filings.keys l.self.touched.items;
      filed :
          (j : ℕ) → j < l.place
          → is_filed (get_or (hashed l.seed g.R.Indexed.index_keys l.row) j 0) l.number l.self.filings.keys ≡ true;
    }
