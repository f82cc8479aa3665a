use Rattle.std.proofs.Common.{◌≡◌, ◌++◌, drop, filter, map}
use Rattle.sheet_core.specs.Sheet.{now_of}
use Rattle.desk_core.specs.ShopView.{state_of}
use Rattle.report_core.specs.Lines.{lines_of}
use Rattle.list_core.specs.HistoryList.{history_row, history_rows, is_listed, span_of}
use Rattle.list_core.proofs.history_list.history_rows.Given as goal

-- the lines so far and those of what is left are all lines
abbrev pub invariant-loop-entry : goal.invariant-loop-entry
invariant-loop-entry l =
    let s = state_of l.shop in
    let origins = now_of l.origins in
    lines_of l.lines.items
    ++ map (history_row s origins) (filter (is_listed l.of (span_of l.days) s origins) (drop l.entry-index l.entries))
    ≡ history_rows l.of (span_of l.days) s origins l.entries
