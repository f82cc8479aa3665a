use Rattle.std.proofs.Common.{◌≡◌, ◌++◌, Bool, map}
use Rattle.std.specs.Prelude.{filter}
use Rattle.sheet_core.specs.Index.{filed_under, numbers_of, rows_at}
use Rattle.sheet_core.specs.Select.{IsTest}
use Rattle.sheet_core.specs.Sheet.{now_of}
use Rattle.sheet_core.proofs.Scans.{of_rows}
use Rattle.sheet_core.proofs.index.Index.find_rows.Given as goal

-- what was found, and what passes of those that are left, are all that pass
abbrev pub invariant-loop-filed : goal.invariant-loop-filed
invariant-loop-filed g l =
    record {
      callable : goal.F-IsAlwaysCallable g l.test;
      found : (p : g.row.R.Denot → Bool) → IsTest g.F.Fn l.test p
          → map (λ r. r.now) l.found.items
          ++ filter p (of_rows (rows_at (now_of l.sheet) (numbers_of l.filed-iterator)))
          ≡ filter p (of_rows (rows_at (now_of l.sheet) (numbers_of (filed_under l.key l.self.filings.keys))));
    }
