use Rattle.std.proofs.Common.{◌≡◌, ◌++◌, ◌∷◌, drop, flat_map}
use Rattle.desk_core.specs.ShopView.{state_of}
use Rattle.report_core.specs.Lines.{lines_of}
use Rattle.list_core.specs.LowList.{level_rows, low_header}
use Rattle.list_core.proofs.low_list.rows_of.Given as goal

-- the rows so far and those of the levels that are left are all rows
abbrev pub invariant-loop-level : goal.invariant-loop-level
invariant-loop-level l = let rows = level_rows (state_of l.shop) in
    lines_of l.rows.items ++ flat_map rows (drop l.level-index l.levels)
    ≡ low_header ∷ flat_map rows l.levels
