use Rattle.std.proofs.Common.{◌++◌, ap, filter, map, ◌∙◌}
use Rattle.std.specs.FinMap as table
use Rattle.sheet_core.proofs.SlotLemmas.{IfOk-map}
use Rattle.yard_core.specs.YardView.{stock_of}
use Rattle.yard_core.specs.declared.yard.Yard.{Yard}
use Rattle.desk_core.specs.ShopView.{state_of}
use Rattle.report_core.specs.Lines.{lines_of}
use Rattle.list_core.specs.PartList.{piece_row}
use Rattle.report_core.specs.Stock.{is_stock_of}
use Rattle.report_core.proofs.Selected.{items_left}
use Rattle.list_core.proofs.part_list.push_pieces.Goals as goal

pub returns : goal.returns
returns c =
    let item_rows = λ (y : Yard). table.values (stock_of y).items in
    IfOk-map c.push_left.result c.push_left.ensures
    (λ _ told. told
    ∙ ap (λ xs. lines_of c.args.lines.now.items ++ map (piece_row (state_of c.args.shop.now)) xs)
    (items_left c.args.part (item_rows c.yard.result.now) c.as_slice.result.now c.in_ok-items.items.items
    c.as_slice.ensures.value c.in_ok-items.ensures
    ∙ ap (λ y. filter (is_stock_of c.args.part) (item_rows y)) c.yard.ensures))
