use Rattle.std.proofs.Common.{◌++◌, ◌-◌, List, Bor, refl, sym, ap, ◌∙◌, map}
use Rattle.std.proofs.lemmas.List.{append-nil}
use Rattle.bom_core.specs.declared.line.Line.{Line}
use Rattle.desk_core.specs.ShopView.{state_of}
use Rattle.report_core.specs.Lines.{lines_of}
use Rattle.list_core.proofs.BillTree.{bill-end, bill-more, bill-next, bill-zero, bills_below}
use Rattle.list_core.proofs.part_list.+push_bill.Goals as goal

pub returns-then-levels-eq0 : goal.returns-then-levels-eq0
returns-then-levels-eq0 t c =
    rw (
      c.if-levels-eq0.true,
      bill-zero (state_of c.args.shop.now) c.args.depth c.args.part,
      append-nil (lines_of c.args.lines.now.items),
    ) refl

pub loop-line-preserved : goal.loop-line-preserved
loop-line-preserved t c =
    bill-next (c.args.levels - 1) (state_of c.args.shop.now) c.args.depth c.deref-line-items.result.now
    c.loop-line.line-index _ c.loop-line-test.true (lines_of c.loop-line.lines.items) _ _ _
    c.in_ok-push_line.ensures c.in_ok-push_bill.ensures c.loop-line.invariant

pub returns : goal.returns
returns t c =
    let s = state_of c.args.shop.now in
    let below = bills_below (c.args.levels - 1) s c.args.depth in
    bill-end (c.args.levels - 1) s c.args.depth c.deref-line-items.result.now c.loop-line.line-index
    c.loop-line-test.false (lines_of c.loop-line.lines.items) _ c.loop-line.invariant
    ∙ ap (λ l. lines_of c.args.lines.now.items ++ l)
    (ap (λ (xs : List (Bor Line)). below (map (λ x. x.now) xs)) c.deref-line-items.ensures.value
    ∙ ap below c.in_ok-bill.ensures
    ∙ sym (bill-more c.args.levels s c.args.depth c.args.part c.if-levels-eq0.false))
