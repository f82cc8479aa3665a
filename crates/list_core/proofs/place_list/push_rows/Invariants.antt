use Rattle.std.proofs.Common.{◌≡◌, ◌++◌, drop, map}
use Rattle.yard_core.specs.Contents.{shown_content}
use Rattle.desk_core.specs.ShopView.{state_of}
use Rattle.report_core.specs.Lines.{lines_of}
use Rattle.list_core.specs.PlaceList.{placed_row, placed_rows}
use Rattle.list_core.proofs.place_list.push_rows.Given as goal

-- the lines so far and those of what is left are the lines before and all rows of the item
abbrev pub invariant-loop-inside : goal.invariant-loop-inside
invariant-loop-inside l =
    let s = state_of l.shop in
    lines_of l.lines.items ++ map (placed_row s) (shown_content (drop l.inside-index l.inside-items))
    ≡ lines_of l.fn.lines.items ++ placed_rows s l.item
