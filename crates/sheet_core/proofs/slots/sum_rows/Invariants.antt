use Rattle.std.proofs.Common.{◌≡◌, ◌+◌, ◌*◌, ◌≤◌, ℕ, drop}
use Rattle.std.specs.Prelude.{sum_by}
use Rattle.sheet_core.specs.Select.{IsMeasure}
use Rattle.sheet_core.specs.Slots.{now_row, rows_by, slots_of}
use Rattle.sheet_core.proofs.Scans.{of_rows}
use Rattle.sheet_core.proofs.slots.sum_rows.Given as goal

-- what is summed, and what is left to sum
abbrev pub invariant-loop-i : goal.invariant-loop-i
invariant-loop-i g l =
    record {
      callable : goal.F-IsAlwaysCallable g l.measure;
      bound : l.total ≤ 18446744073709551616 * l.i;
      left : (f : g.row.R.Denot → ℕ) → IsMeasure g.F.Fn l.measure f
          → l.total + sum_by f (of_rows (rows_by now_row (drop l.i (slots_of g.R.Key.RowKey.digits l.slots.entries))))
          ≡ sum_by f (of_rows (rows_by now_row (slots_of g.R.Key.RowKey.digits l.slots.entries)));
    }
