use Rattle.std.proofs.Common.{◌≡◌, ◌++◌, ◌∷◌, drop, filter, map}
use Rattle.desk_core.specs.ShopView.{state_of}
use Rattle.report_core.specs.Lines.{lines_of}
use Rattle.list_core.specs.StockList.{is_low, stock_header, stock_row}
use Rattle.list_core.proofs.stock_list.rows_of.Given as goal

-- the lines so far and those of what is left are all lines
abbrev pub invariant-loop-part : goal.invariant-loop-part
invariant-loop-part l = let s = state_of l.shop in
    lines_of l.lines.items
    ++ map (stock_row s) (filter (is_low l.low s) (map (λ p. p.now) (drop l.part-index l.parts)))
    ≡ stock_header ∷ map (stock_row s) (filter (is_low l.low s) (map (λ p. p.now) l.parts))
