use Rattle.std.proofs.Common.{◌∷◌, Bor, map}
use Rattle.std.specs.List.{flat_map}
use Rattle.forest.specs.declared.item.Item.{Item}
use Rattle.desk_core.specs.ShopView.{state_of}
use Rattle.report_core.specs.Lines.{lines_of}
use Rattle.list_core.specs.PlaceList.{place_header, placed_rows}
use Rattle.list_core.proofs.Adding.{rows_added}
use Rattle.list_core.proofs.place_list.place_lines.Goals as goal

pub loop-item-preserved : goal.loop-item-preserved
loop-item-preserved c =
    let rows = placed_rows (state_of c.args.shop.now) in
    rows_added (λ (i : Bor Item). i.now) c.args.items.now c.loop-item.item-index c.item-item.result
    c.loop-item-test.true c.item-item.is rows (lines_of c.push_rows.new.lines.items)
    (lines_of c.loop-item.lines.items) (place_header ∷ flat_map rows (map (λ i. i.now) c.args.items.now))
    c.in_ok-push_rows.ensures c.loop-item.invariant
