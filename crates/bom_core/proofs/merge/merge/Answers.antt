use Rattle.std.proofs.Common.{List, ◌+◌, ◌++◌, drop, refl, sym, ap, ◌∙◌, Bor, Vec, Global}
use Rattle.std.proofs.lemmas.List.{at_drop_all, at_drop_more}
use Rattle.bom_core.specs.declared.line.Line.{Line}
use Rattle.bom_core.specs.Roles.{merged}
use Rattle.bom_core.proofs.Merging.{lent, lower-pushed, same-passed, before-higher, at-end, other-pushed, all-pushed}
use Rattle.bom_core.proofs.merge.merge.Goals.{then-others-at-2+in_ok-push, else-others-at-2}
use Rattle.bom_core.proofs.merge.merge.Goals.{then-loop-at-test+else-others-at, else-loop-at-test}
use Rattle.bom_core.proofs.merge.merge.Goals as goal

pub loop-at-init : goal.loop-at-init
loop-at-init c =
    ap (λ ms. lent c.loop-line.all.items ++ ms)
    (sym (at_drop_more (λ (ls : List (Bor Line)). merged (lent ls) (lent (drop c.loop-line.at c.args.others.now)))
    c.args.lines.now c.loop-line.line-index _ c.loop-line-test.true))
    ∙ c.loop-line.invariant

pub loop-at-preserved : goal.loop-at-preserved
loop-at-preserved c =
    let next : List Line → List Line = merged (lent (drop (c.loop-line.line-index + 1) c.args.lines.now)) in
    elim c.if-others-at-2.branch [
      | then-others-at-2+in_ok-push w ↦
          lower-pushed _ next c.args.others.now c.loop-at.all.items c.loop-at.at _ c.loop-at.invariant _
          c.loop-at-test.true w.if-others-at-2.true
          c.if-others-at-2.all.items (ap (λ (v : Vec (Bor Line) Global). v.items) w.all-is ∙ w.in_ok-push.ensures.items)
      | else-others-at-2 w ↦
          same-passed _ next c.args.others.now c.loop-at.all.items c.loop-at.at _ c.loop-at.invariant _
          c.loop-at-test.true c.if-others-at.true w.if-others-at-2.false
          c.if-others-at-2.all.items (ap (λ (v : Vec (Bor Line) Global). v.items) w.all-is)
    ]

pub loop-line-preserved : goal.loop-line-preserved
loop-line-preserved c =
    let next : List Line → List Line = merged (lent (drop (c.loop-line.line-index + 1) c.args.lines.now)) in
    elim c.loop-at-test.branch [
      | then-loop-at-test+else-others-at w ↦
          before-higher _ next c.args.others.now c.loop-at.all.items c.loop-at.at _ c.loop-at.invariant _ refl _
          c.in_ok-push-2.ensures.items _ w.loop-at-test.true w.if-others-at.false
      | else-loop-at-test w ↦
          at-end _ next c.args.others.now c.loop-at.all.items c.loop-at.at _ c.loop-at.invariant _ refl _
          c.in_ok-push-2.ensures.items w.loop-at-test.false
    ]

pub loop-at-2-init : goal.loop-at-2-init
loop-at-2-init c =
    ap (λ ms. lent c.loop-line.all.items ++ ms)
    (sym (at_drop_all (λ (ls : List (Bor Line)). merged (lent ls) (lent (drop c.loop-line.at c.args.others.now)))
    c.args.lines.now c.loop-line.line-index c.loop-line-test.false))
    ∙ c.loop-line.invariant

pub loop-at-2-preserved : goal.loop-at-2-preserved
loop-at-2-preserved c =
    other-pushed c.args.others.now c.loop-at-2.all.items c.loop-at-2.at _ _ c.loop-at-2-test.true c.loop-at-2.invariant
    _ c.in_ok-push-3.ensures.items

pub returns : goal.returns
returns c =
    all-pushed c.args.others.now c.loop-at-2.all.items c.loop-at-2.at _ c.loop-at-2-test.false c.loop-at-2.invariant
