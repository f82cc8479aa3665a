use Rattle.std.proofs.Common.{◌≡◌, ◌+◌, ◌*◌, ◌^◌, ◌<◌, take}
use Rattle.std.specs.Prelude.{sum_by}
use Rattle.yard_core.specs.YardView.{stock_of}
use Rattle.stock_core.specs.ItemTests.{quantity_at}
use Rattle.stock_core.proofs.commands.merge.total.Given as goal

abbrev pub invariant-loop-item : goal.invariant-loop-item
invariant-loop-item l =
    record {
      value :
          l.total
          ≡ quantity_at (stock_of l.yard) l.into + sum_by (quantity_at (stock_of l.yard)) (take l.item-index l.items);
      small : l.total < (l.item-index + 1) * 2 ^ 64;
    }
