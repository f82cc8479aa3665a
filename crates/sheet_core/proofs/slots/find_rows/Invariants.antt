use Rattle.std.proofs.Common.{◌≡◌, Bool, map, take}
use Rattle.sheet_core.specs.Select.{IsTest}
use Rattle.sheet_core.specs.Slots.{now_row, row_found, rows_by, slots_of}
use Rattle.sheet_core.proofs.Selects.{passing}
use Rattle.sheet_core.proofs.slots.find_rows.Given as goal

-- what was found are the passing rows of the slots so far
abbrev pub invariant-loop-i : goal.invariant-loop-i
invariant-loop-i g l =
    record {
      callable : goal.F-IsAlwaysCallable g l.test;
      found : (p : g.row.R.Denot → Bool) → IsTest g.F.Fn l.test p
          → map (row_found g.R.Key.RowKey.digits) l.found.items
          ≡ passing p (rows_by now_row (take l.i (slots_of g.R.Key.RowKey.digits l.slots.entries)));
    }
