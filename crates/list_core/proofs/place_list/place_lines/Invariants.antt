use Rattle.std.proofs.Common.{◌≡◌, ◌++◌, ◌∷◌, drop, map}
use Rattle.std.specs.List.{flat_map}
use Rattle.desk_core.specs.ShopView.{state_of}
use Rattle.report_core.specs.Lines.{lines_of}
use Rattle.list_core.specs.PlaceList.{place_header, placed_rows}
use Rattle.list_core.proofs.place_list.place_lines.Given as goal

-- the lines so far and those of what is left are all lines
abbrev pub invariant-loop-item : goal.invariant-loop-item
invariant-loop-item l =
    let rows = placed_rows (state_of l.shop) in
    lines_of l.lines.items ++ flat_map rows (map (λ i. i.now) (drop l.item-index l.items))
    ≡ place_header ∷ flat_map rows (map (λ i. i.now) l.items)
