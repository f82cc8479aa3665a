use Rattle.desk_core.specs.ShopView.{state_of}
use Rattle.list_core.specs.BuildList.{build_line_row}
use Rattle.report_core.specs.Lines.{fields_of, lines_of}
use Rattle.list_core.proofs.Pushed.{seen-pushed}
use Rattle.list_core.proofs.build_list.push_want_rows.Goals as goal

pub loop-want-preserved : goal.loop-want-preserved
loop-want-preserved c =
    seen-pushed fields_of (build_line_row (state_of c.args.shop.now) c.args.build.now) c.args.wants.now
    c.loop-want.want-index _ (lines_of c.args.rows.now.items) c.loop-want.rows.items c.push.new.self.items
    c.in_ok-build_line_row.field-0 c.loop-want-test.true c.loop-want.invariant c.in_ok-build_line_row.ensures
    c.in_ok-push.ensures.items
