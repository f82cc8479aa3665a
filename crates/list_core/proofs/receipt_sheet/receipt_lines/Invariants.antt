use Rattle.std.proofs.Common.{◌≡◌, ◌+◌, ◌++◌, ◌∷◌, drop, map}
use Rattle.desk_core.specs.ShopView.{state_of}
use Rattle.list_core.specs.ReceiptSheet.{receipt_header, receipt_rows}
use Rattle.report_core.specs.Lines.{lines_of}
use Rattle.list_core.proofs.receipt_sheet.receipt_lines.Given as goal

-- the rows so far and those of what is left are all rows
abbrev pub invariant-loop-index : goal.invariant-loop-index
invariant-loop-index l =
    let s = state_of l.shop in
    lines_of l.rows.items ++ receipt_rows s (l.index + 1) (map (λ x. x.now) (drop l.index l.lines))
    ≡ receipt_header ∷ receipt_rows s 1 (map (λ x. x.now) l.lines)
