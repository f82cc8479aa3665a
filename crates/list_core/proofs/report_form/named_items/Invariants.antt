use Rattle.std.proofs.Common.{◌≡◌, ◌++◌, ◌∷◌, not, drop, filter, map}
use Rattle.yard_core.specs.Stock.{is_gone}
use Rattle.desk_core.specs.ShopView.{state_of}
use Rattle.report_core.specs.Lines.{lines_of}
use Rattle.list_core.specs.NamedReports.{named_item, stock_header}
use Rattle.list_core.proofs.report_form.named_items.Given as goal

-- the lines so far and those of what is left are all lines
abbrev pub invariant-loop-item : goal.invariant-loop-item
invariant-loop-item l = let s = state_of l.shop in
    lines_of l.lines.items
    ++ map (named_item s) (filter (λ i. not (is_gone i.place)) (map (λ i. i.now) (drop l.item-index l.items)))
    ≡ stock_header ∷ map (named_item s) (filter (λ i. not (is_gone i.place)) (map (λ i. i.now) l.items))
