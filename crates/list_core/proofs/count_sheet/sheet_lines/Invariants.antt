use Rattle.std.proofs.Common.{◌≡◌, ◌+◌, ◌++◌, ◌∷◌, drop, map}
use Rattle.desk_core.specs.ShopView.{state_of}
use Rattle.list_core.specs.CountSheet.{sheet_header, sheet_rows}
use Rattle.report_core.specs.Lines.{lines_of}
use Rattle.list_core.proofs.count_sheet.sheet_lines.Given as goal

-- the lines so far and those of what is left are all lines
abbrev pub invariant-loop-index : goal.invariant-loop-index
invariant-loop-index l =
    let s = state_of l.shop in
    lines_of l.lines.items ++ sheet_rows s (l.index + 1) (map (λ i. i.now) (drop l.index l.items))
    ≡ sheet_header ∷ sheet_rows s 1 (map (λ i. i.now) l.items)
