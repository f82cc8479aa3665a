use Rattle.std.proofs.Common.{ℕ, ◌<◌, get_or}
use Rattle.std.specs.Borrow.{Bor}
use Rattle.part_core.specs.CatalogueView.{parts_of}
use Rattle.stock_core.specs.Sound.{IsSoundItem}
use Rattle.yard_core.specs.YardView.{stock_of}
use Rattle.forest.specs.declared.item.Item.{Item}
use Rattle.stock_core.proofs.opening.rows.are_sound_items.Given as goal

abbrev pub invariant-loop-item : goal.invariant-loop-item
invariant-loop-item g l =
    (k : ℕ) (r : Bor Item) → k < l.item-index
    → IsSoundItem (g.W.KnowsOwners.owners_of l.owners) (parts_of l.catalogue) (stock_of l.yard) (get_or l.items k r).now
