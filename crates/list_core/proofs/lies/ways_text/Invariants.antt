use Rattle.std.proofs.Common.{◌≡◌, ◌++◌, drop, map, Some}
use Rattle.std.specs.String.{string_bytes}
use Rattle.desk_core.specs.ShopView.{state_of}
use Rattle.list_core.specs.Lies.{semicolons, ways_text}
use Rattle.list_core.specs.Ways.{way_text}
use Rattle.list_core.proofs.lies.ways_text.Given as goal

-- the text so far and that of what is left is all text
abbrev pub invariant-loop-location : goal.invariant-loop-location
invariant-loop-location l = let s = state_of l.shop in
    string_bytes l.text
    ++ semicolons l.later (map (λ n. way_text (Some n) s.stock.locations) (drop l.location-index l.locations))
    ≡ ways_text s l.locations
