use Rattle.std.specs.FinMap as table
use Rattle.sheet_core.proofs.SlotLemmas.{IfOk-map}
use Rattle.yard_core.specs.YardView.{stock_of}
use Rattle.report_core.proofs.Selected.{lines_left}
use Rattle.report_core.proofs.stock.part_lines.Goals as goal

pub returns : goal.returns
returns c =
    IfOk-map c.item_lines.result c.item_lines.ensures
    (λ lines told. lines_left c.args.part (table.values (stock_of c.args.yard.now).items) c.as_slice.result.now
    c.in_ok-items.items.items _ c.as_slice.ensures.value c.in_ok-items.ensures told)
