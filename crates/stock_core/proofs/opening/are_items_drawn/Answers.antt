use Rattle.std.proofs.Common.{◌≡◌, map, ap, ◌∙◌}
use Rattle.std.specs.Borrow.{Bor}
use Rattle.std.specs.FinMap as table
use Rattle.sheet_core.specs.Sheet.{now_of}
use Rattle.forest.specs.declared.item.Item.{Item}
use Rattle.yard_core.specs.YardView.{stock_of}
use Rattle.stock_core.proofs.Opened.{drawn_from}
use Rattle.stock_core.proofs.opening.are_items_drawn.Goals as goal

pub returns : goal.returns
returns c =
    let s = stock_of c.args.yard.now in
    let rows : map (λ (x : Bor Item). x.now) c.as_slice.result.now ≡ table.values s.items =
    ap (map (λ (x : Bor Item). x.now)) c.as_slice.ensures.value
    ∙ c.in_ok-items.ensures
    ∙ ap (λ t. table.values (now_of t)) c.items.ensures in
    drawn_from c.args.next s c.requires _ _ rows c.are_drawn.ensures
