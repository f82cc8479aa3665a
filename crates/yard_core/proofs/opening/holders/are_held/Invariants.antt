use Rattle.std.proofs.Common.{ℕ, ◌<◌, get_or}
use Rattle.std.specs.Borrow.{Bor}
use Rattle.sheet_core.specs.Sheet.{now_of}
use Rattle.forest.specs.declared.item.Item.{Item}
use Rattle.yard_core.specs.Stock.{IsHeld}
use Rattle.yard_core.proofs.opening.holders.are_held.Given as goal

abbrev pub invariant-loop-item : goal.invariant-loop-item
invariant-loop-item l = (k : ℕ) (r : Bor Item) → k < l.item-index → IsHeld (now_of l.items) (get_or l.rows k r).now
