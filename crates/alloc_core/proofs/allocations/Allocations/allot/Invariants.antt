use Rattle.std.proofs.Common.{◌≡◌, ◌+◌, ◌≤◌, drop}
use Rattle.yard_core.specs.YardView.{stock_of}
use Rattle.alloc_core.specs.AllocationsView.{allocations_before}
use Rattle.alloc_core.specs.Allotments.{allotments_at, allotments_of, for_line}
use Rattle.alloc_core.specs.Allotting.{allot_in_turn}
use Rattle.alloc_core.proofs.allocations.Allocations.allot.Given as goal

-- what is left to allot makes what all made at first
abbrev pub invariant-loop-item : goal.invariant-loop-item
invariant-loop-item l =
    record {
      left :
          allot_in_turn (for_line l.build l.line) (drop l.item-index l.items) l.left (stock_of l.yard)
          (allotments_at l.next l.self l.counter)
          ≡ allot_in_turn (for_line l.build l.line) l.items l.missing (stock_of l.yard)
          (allotments_of l.initial.self l.initial.counter);
      from : l.counter.next ≤ l.next;
      within : l.next ≤ l.counter.limits.numbers + 1;
      before : allocations_before l.self ≡ allocations_before l.initial.self;
    }
