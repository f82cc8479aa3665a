use Rattle.std.proofs.Common.{ℕ, ◌<◌, get_or}
use Rattle.std.specs.Borrow.{Bor}
use Rattle.forest.specs.declared.item.Item.{Item}
use Rattle.yard_core.specs.Stock.{IsItem}
use Rattle.yard_core.proofs.opening.quantities.are_items.Given as goal

abbrev pub invariant-loop-item : goal.invariant-loop-item
invariant-loop-item l = (k : ℕ) (r : Bor Item) → k < l.item-index → IsItem (get_or l.rows k r).now
