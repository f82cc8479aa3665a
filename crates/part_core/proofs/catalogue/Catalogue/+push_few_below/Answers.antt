use Rattle.std.proofs.Common.{◌++◌, ◌-◌, List, Bor, refl, sym, ap, ◌∙◌, map}
use Rattle.std.proofs.lemmas.List.{append-nil}
use Rattle.part_core.specs.CatalogueView.{parts_of}
use Rattle.part_core.specs.declared.part.Part.{Part}
use Rattle.part_core.proofs.Chains.{below-end, below-step, below_all, down-more, down-zero}
use Rattle.part_core.proofs.catalogue.Catalogue.+push_few_below.Goals as goal

pub returns-then-steps-eq0 : goal.returns-then-steps-eq0
returns-then-steps-eq0 t c = λ _.
    rw (c.if-steps-eq0.true, down-zero c.args.template (parts_of c.args.self.now), append-nil c.args.found.now.items) refl

pub loop-row-preserved : goal.loop-row-preserved
loop-row-preserved t c =
    below-step (c.args.steps - 1) (parts_of c.args.self.now) c.deref-row-items.result.now c.loop-row.row-index
    c.row-item.result c.loop-row-test.true c.row-item.is c.loop-row.found.items c.push.new.self.items _ _
    c.in_ok-push.ensures.items (c.in_ok-whole.ensures c.if-not-whole.false) c.loop-row.invariant

pub returns : goal.returns
returns t c = λ _.
    let s = parts_of c.args.self.now in
    let d = c.args.steps - 1 in
    below-end d s c.deref-row-items.result.now c.loop-row.row-index c.loop-row-test.false c.loop-row.found.items _
    c.loop-row.invariant
    ∙ ap (λ l. c.args.found.now.items ++ l)
    (ap (λ (xs : List (Bor Part)). below_all d s (map (λ x. x.now) xs)) c.deref-row-items.ensures.value
    ∙ ap (below_all d s) c.in_ok-variants.ensures
    ∙ sym (down-more c.args.steps c.args.template s c.if-steps-eq0.false))
