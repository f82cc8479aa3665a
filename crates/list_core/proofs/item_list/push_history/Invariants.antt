use Rattle.std.proofs.Common.{◌≡◌, ◌++◌, drop, map}
use Rattle.desk_core.specs.ShopView.{state_of}
use Rattle.list_core.specs.ItemList.{history_fields}
use Rattle.report_core.specs.Lines.{lines_of}
use Rattle.list_core.proofs.item_list.push_history.Given as goal

-- the lines so far and those of what is left are all lines
abbrev pub invariant-loop-entry : goal.invariant-loop-entry
invariant-loop-entry l = let line = history_fields (state_of l.shop) in
    lines_of l.lines.items ++ map line (map (λ e. e.now) (drop l.entry-index l.entries))
    ≡ lines_of l.initial.lines.items ++ map line (map (λ e. e.now) l.entries)
