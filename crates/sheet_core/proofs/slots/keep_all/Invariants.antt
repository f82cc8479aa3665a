use Rattle.std.proofs.Common.{◌≡◌, length}
use Rattle.std.specs.List.Sorted.{IsNonDecreasing}
use Rattle.sheet_core.specs.Slots.{AreSlots, now_row, slots_of, table_by}
use Rattle.sheet_core.proofs.slots.keep_all.Given as goal

-- the places that are left rise
abbrev pub invariant-loop-i : goal.invariant-loop-i
invariant-loop-i g l =
    record {
      slots : AreSlots (slots_of g.R.Key.RowKey.digits l.slots.entries) l.changed.items;
      up : IsNonDecreasing l.changed.items;
      rows :
          table_by now_row (slots_of g.R.Key.RowKey.digits l.slots.entries)
          ≡ table_by now_row (slots_of g.R.Key.RowKey.digits l.fn.slots.entries);
    }

abbrev pub decreases-loop-i : goal.decreases-loop-i
decreases-loop-i g l = length l.changed.items
