use Rattle.std.proofs.Common.{◌++◌}
use Rattle.yard_core.specs.declared.walks.Inside.{Inside}
use Rattle.desk_core.specs.ShopView.{state_of}
use Rattle.report_core.specs.Lines.{fields_of, lines_of}
use Rattle.list_core.specs.PlaceList.{placed_row, placed_rows}
use Rattle.list_core.proofs.Adding.{row_added}
use Rattle.list_core.proofs.place_list.push_rows.Goals as goal

pub loop-inside-preserved : goal.loop-inside-preserved
loop-inside-preserved c =
    let s = state_of c.args.shop.now in
    row_added (λ (x : Inside). (x.item.now, x.depth)) c.deref-inside-items.result.now c.loop-inside.inside-index
    c.inside-item.result c.loop-inside-test.true c.inside-item.is fields_of (placed_row s)
    c.push-in-loop-inside.new.self.items c.loop-inside.lines.items c.in_ok-placed_row-2.field-0
    (lines_of c.args.lines.now.items ++ placed_rows s c.args.item.now) c.in_ok-push-2.ensures.items
    c.in_ok-placed_row-2.ensures c.loop-inside.invariant
