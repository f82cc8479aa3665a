use Rattle.std.proofs.Common.{◌≡◌, map, drop}
use Rattle.yard_core.specs.ItemNames.{newest, newest_left}
use Rattle.part_core.specs.declared.found.Found.TheVariants.{Nothing}
use Rattle.yard_core.proofs.yard.looked_up.newest_left.Given as goal

abbrev pub invariant-loop-item : goal.invariant-loop-item
invariant-loop-item l =
    let named = map (λ i. i.now) l.items in
    newest_left l.found (map (λ i. i.now) (drop l.item-index l.items)) ≡ newest_left (newest Nothing named) named
