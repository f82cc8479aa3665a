use Rattle.std.proofs.Common.{◌≡◌, ◌++◌, map, take}
use Rattle.desk_core.specs.ShopView.{state_of}
use Rattle.list_core.specs.BuildList.{build_line_row}
use Rattle.report_core.specs.Lines.{lines_of}
use Rattle.list_core.proofs.build_list.push_want_rows.Given as goal

-- the rows so far have come with those of the lines that the loop has passed
abbrev pub invariant-loop-want : goal.invariant-loop-want
invariant-loop-want l = let row = build_line_row (state_of l.shop) l.build in
    lines_of l.rows.items ≡ lines_of l.initial.rows.items ++ map row (take l.want-index l.wants)
