use Rattle.std.proofs.Common.{◌≡◌, ℕ, ◌<◌, true, get_or}
use Rattle.std.specs.Borrow.{Bor}
use Rattle.part_core.specs.CatalogueView.{parts_of}
use Rattle.bom_core.specs.BomsView.{bills_of}
use Rattle.forest.specs.declared.item.Item.{Item}
use Rattle.build_core.specs.BuildsView.{builds_now}
use Rattle.build_core.specs.RowTests.{is_right_placed}
use Rattle.build_core.proofs.builds.Builds.are_right_placed.Given as goal

abbrev pub invariant-loop-item : goal.invariant-loop-item
invariant-loop-item l =
    (k : ℕ) (r : Bor Item) → k < l.item-index
    → is_right_placed (parts_of l.catalogue) (bills_of l.boms) (builds_now l.self) (get_or l.items k r).now ≡ true
