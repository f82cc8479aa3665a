use Rattle.std.proofs.Common.{◌≡◌, [], drop, map}
use Rattle.desk_core.specs.ShopView.{state_of}
use Rattle.list_core.specs.Lies.{locations_from}
use Rattle.list_core.proofs.lies.locations_from.Given as goal

-- those so far, with those of what is left behind them, are all
abbrev pub invariant-loop-item : goal.invariant-loop-item
invariant-loop-item l = let s = state_of l.shop in
    locations_from s l.locations.items (map (λ i. i.now) (drop l.item-index l.items))
    ≡ locations_from s [] (map (λ i. i.now) l.items)
