use Rattle.std.proofs.Common.{◌≡◌, ◌∙◌, ◌+◌, ◌-◌, None, Some, ap, arith, sym}
use Rattle.std.specs.FinMap as table
use Rattle.sheet_core.specs.Sheet.{now_of}
use Rattle.list_core.specs.Ways.{parent_of}
use Rattle.list_core.proofs.Climbing.{meets-here, meets-none, meets-on, meets-zero}
use Rattle.list_core.proofs.ways.is_under.Goals as goal

pub returns-then-at-top : goal.returns-then-at-top
returns-then-at-top c =
    let rows = now_of c.args.rows.now in
    let left = table.len rows - c.loop-step._step in
    sym (meets-here c.args.top left c.loop-step.at rows (omega (arith, c.len-step-end.ensures.count)) c.if-at-top.true)
    ∙ c.loop-step.invariant

pub returns-in-None-parent : goal.returns-in-None-parent
returns-in-None-parent c =
    let rows = now_of c.args.rows.now in
    let left = table.len rows - c.loop-step._step in
    sym (meets-none c.args.top (left - 1) rows)
    ∙ sym (meets-on c.args.top left c.loop-step.at None rows (omega (arith, c.len-step-end.ensures.count))
    c.if-at-top.false (ap parent_of (sym c.in-Some.ensures) ∙ c.in-None-parent.is))
    ∙ c.loop-step.invariant

pub returns-in-None : goal.returns-in-None
returns-in-None c =
    let rows = now_of c.args.rows.now in
    let left = table.len rows - c.loop-step._step in
    sym (meets-none c.args.top (left - 1) rows)
    ∙ sym (meets-on c.args.top left c.loop-step.at None rows (omega (arith, c.len-step-end.ensures.count))
    c.if-at-top.false (ap parent_of (sym c.in-None.ensures)))
    ∙ c.loop-step.invariant

pub loop-step-preserved : goal.loop-step-preserved
loop-step-preserved c =
    let rows = now_of c.args.rows.now in
    let left = table.len rows - c.loop-step._step in
    let one : table.len rows - (c.loop-step._step + 1) ≡ left - 1 = omega arith in
    rw one (sym (meets-on c.args.top left c.loop-step.at (Some c.in-Some-parent.parent) rows
    (omega (arith, c.len-step-end.ensures.count)) c.if-at-top.false
    (ap parent_of (sym c.in-Some.ensures) ∙ c.in-Some-parent.is))
    ∙ c.loop-step.invariant)

pub returns : goal.returns
returns c =
    let rows = now_of c.args.rows.now in
    let over : table.len rows - c.loop-step._step ≡ 0 = omega (arith, c.len-step-end.ensures.count) in
    sym (meets-zero c.args.top (Some c.loop-step.at) rows) ∙ (rw over at c.loop-step.invariant)
