use Rattle.std.proofs.Common.{◌≡◌, ◌++◌, drop, filter, map}
use Rattle.desk_core.specs.ShopView.{state_of}
use Rattle.list_core.specs.FindList.{found_location, is_in}
use Rattle.report_core.specs.Lines.{lines_of}
use Rattle.list_core.proofs.find_list.push_locations.Given as goal

-- the lines so far and those of what is left are all lines
abbrev pub invariant-loop-location : goal.invariant-loop-location
invariant-loop-location l =
    lines_of l.lines.items
    ++ map (found_location (state_of l.shop)) (filter (λ p. is_in l.word p.name) (map (λ x. x.now) (drop l.location-index l.location-items)))
    ≡ lines_of l.initial.lines.items ++ map (found_location (state_of l.shop)) (filter (λ p. is_in l.word p.name) (map (λ x. x.now) l.location-items))
