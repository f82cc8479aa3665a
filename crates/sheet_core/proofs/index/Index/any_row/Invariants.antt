use Rattle.std.proofs.Common.{◌≡◌, Bool}
use Rattle.std.specs.List.{list_any}
use Rattle.sheet_core.specs.Index.{filed_under, numbers_of, rows_at}
use Rattle.sheet_core.specs.Select.{IsTest}
use Rattle.sheet_core.specs.Sheet.{now_of}
use Rattle.sheet_core.proofs.Scans.{of_rows}
use Rattle.sheet_core.proofs.index.Index.any_row.Given as goal

-- no row so far passes: one passes where one of those that are left does
abbrev pub invariant-loop-filing : goal.invariant-loop-filing
invariant-loop-filing g l =
    record {
      callable : goal.F-IsAlwaysCallable g l.test;
      left : (p : g.row.R.Denot → Bool) → IsTest g.F.Fn l.test p
          → list_any p (of_rows (rows_at (now_of l.sheet) (numbers_of l.filing-iterator)))
          ≡ list_any p (of_rows (rows_at (now_of l.sheet) (numbers_of (filed_under l.key l.self.filings.keys))));
    }
