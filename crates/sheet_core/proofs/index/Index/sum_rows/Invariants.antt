use Rattle.std.proofs.Common.{◌≡◌, ◌+◌, ◌*◌, ◌≤◌, ℕ, length}
use Rattle.std.specs.Prelude.{sum_by}
use Rattle.sheet_core.specs.Index.{filed_under, numbers_of, rows_at}
use Rattle.sheet_core.specs.Select.{IsMeasure}
use Rattle.sheet_core.specs.Sheet.{now_of}
use Rattle.sheet_core.proofs.Scans.{of_rows}
use Rattle.sheet_core.proofs.index.Index.sum_rows.Given as goal

-- what is summed, and what is left to sum: each row that is left has room for the largest amount
abbrev pub invariant-loop-filing : goal.invariant-loop-filing
invariant-loop-filing g l =
    record {
      callable : goal.F-IsAlwaysCallable g l.measure;
      bound :
          l.total + 18446744073709551616 * length (numbers_of l.filing-iterator)
          ≤ 18446744073709551616 * 18446744073709551616;
      left : (f : g.row.R.Denot → ℕ) → IsMeasure g.F.Fn l.measure f
          → l.total + sum_by f (of_rows (rows_at (now_of l.sheet) (numbers_of l.filing-iterator)))
          ≡ sum_by f (of_rows (rows_at (now_of l.sheet) (numbers_of (filed_under l.key l.self.filings.keys))));
    }
