use Rattle.std.proofs.Common.{◌∙◌, Global, String, Vec, ap, sym}
use Rattle.sheet_core.specs.Sheet.{now_of}
use Rattle.desk_core.specs.ShopView.{state_of}
use Rattle.report_core.specs.Lines.{fields_of}
use Rattle.list_core.specs.HistoryList.{history_row, history_rows, is_listed, span_of}
use Rattle.list_core.proofs.Adding.{kept_added, kept_skipped}
use Rattle.list_core.proofs.history_list.history_rows.Goals as goal
use Rattle.list_core.proofs.history_list.history_rows.Goals.{else-branch, then-branch+in_ok-history_row+in_ok-push}

pub loop-entry-preserved : goal.loop-entry-preserved
loop-entry-preserved c =
    let s = state_of c.args.shop.now in
    let origins = now_of c.args.origins.now in
    let kept = is_listed c.args.of (span_of c.args.days.now) s origins in
    let row = history_row s origins in
    let entries = c.args.entries.now in
    let i = c.loop-entry.entry-index in
    let e = c.entry-item.result in
    let all = history_rows c.args.of (span_of c.args.days.now) s origins entries in
    let rows = λ (v : Vec (Vec (String Global) Global) Global). v.items in
    elim c.if-branch.branch [
      | then-branch+in_ok-history_row+in_ok-push w ↦
          kept_added kept row fields_of entries i e c.loop-entry-test.true c.entry-item.is c.if-branch.lines.items
          c.loop-entry.lines.items w.in_ok-history_row.field-0 all
          (sym w.if-branch.true ∙ c.in_ok-is_listed.ensures) (ap rows w.lines-is ∙ w.in_ok-push.ensures.items)
          w.in_ok-history_row.ensures c.loop-entry.invariant
      | else-branch w ↦
          kept_skipped kept row fields_of entries i e c.loop-entry-test.true c.entry-item.is c.if-branch.lines.items
          c.loop-entry.lines.items all (sym w.if-branch.false ∙ c.in_ok-is_listed.ensures) (ap rows w.lines-is)
          c.loop-entry.invariant
    ]
