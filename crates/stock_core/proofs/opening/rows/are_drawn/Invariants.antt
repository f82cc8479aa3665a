use Rattle.std.proofs.Common.{ℕ, ◌<◌, get_or}
use Rattle.std.specs.Borrow.{Bor}
use Rattle.stock_core.specs.Opening.{IsDrawn}
use Rattle.forest.specs.declared.item.Item.{Item}
use Rattle.stock_core.proofs.opening.rows.are_drawn.Given as goal

abbrev pub invariant-loop-item : goal.invariant-loop-item
invariant-loop-item l = (k : ℕ) (r : Bor Item) → k < l.item-index → IsDrawn l.next (get_or l.items k r).now
