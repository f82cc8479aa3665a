use Rattle.std.proofs.Common.{◌≡◌, ◌++◌, not, drop, filter, map}
use Rattle.yard_core.specs.Stock.{is_gone}
use Rattle.report_core.specs.Lines.{lines_of}
use Rattle.report_core.specs.Stock.{item_line}
use Rattle.report_core.proofs.stock.item_lines.Given as goal

-- the lines so far and those of what is left are all lines
abbrev pub invariant-loop-item : goal.invariant-loop-item
invariant-loop-item l =
    lines_of l.lines.items
    ++ map item_line (filter (λ i. not (is_gone i.place)) (map (λ i. i.now) (drop l.item-index l.items)))
    ≡ map item_line (filter (λ i. not (is_gone i.place)) (map (λ i. i.now) l.items))
