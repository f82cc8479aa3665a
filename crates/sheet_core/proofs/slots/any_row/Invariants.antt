use Rattle.std.proofs.Common.{◌≡◌, Bool, drop}
use Rattle.std.specs.List.{list_any}
use Rattle.sheet_core.specs.Select.{IsTest}
use Rattle.sheet_core.specs.Slots.{now_row, rows_by, slots_of}
use Rattle.sheet_core.proofs.Scans.{of_rows}
use Rattle.sheet_core.proofs.slots.any_row.Given as goal

-- no row so far passes: one passes where one of those that are left does
abbrev pub invariant-loop-i : goal.invariant-loop-i
invariant-loop-i g l =
    record {
      callable : goal.F-IsAlwaysCallable g l.test;
      left : (p : g.row.R.Denot → Bool) → IsTest g.F.Fn l.test p
          → list_any p (of_rows (rows_by now_row (drop l.i (slots_of g.R.Key.RowKey.digits l.slots.entries))))
          ≡ list_any p (of_rows (rows_by now_row (slots_of g.R.Key.RowKey.digits l.slots.entries)));
    }
