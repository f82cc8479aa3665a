use Rattle.std.proofs.Common.{◌++◌, Bor, map}
use Rattle.forest.specs.declared.entry.Entry.{Entry}
use Rattle.desk_core.specs.ShopView.{state_of}
use Rattle.list_core.specs.ItemList.{history_fields}
use Rattle.report_core.specs.Lines.{fields_of, lines_of}
use Rattle.list_core.proofs.Adding.{row_added}
use Rattle.list_core.proofs.item_list.push_history.Goals as goal

pub loop-entry-preserved : goal.loop-entry-preserved
loop-entry-preserved c =
    let line = history_fields (state_of c.args.shop.now) in
    row_added (λ (e : Bor Entry). e.now) c.args.entries.now c.loop-entry.entry-index c.entry-item.result
    c.loop-entry-test.true c.entry-item.is fields_of line c.push.new.self.items c.loop-entry.lines.items
    c.in_ok-history_fields.field-0
    (lines_of c.args.lines.now.items ++ map line (map (λ e. e.now) c.args.entries.now)) c.in_ok-push.ensures.items
    c.in_ok-history_fields.ensures c.loop-entry.invariant
