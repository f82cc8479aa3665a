use Rattle.std.proofs.Common.{◌≡◌, ◌∙◌, ◌-◌, ◌+◌, ◌<◌, ◌++◌, ◌∷◌, [], Bool, List, ap, refl, subst, sym}
use Rattle.desk_core.specs.ShopView.{state_of}
use Rattle.list_core.specs.Shown.{AreShown}
use Rattle.list_core.specs.Trace.{is_shown, most_steps, visits_after, walk_from}
use Rattle.list_core.specs.declared.walk.Step.{Step}
use Rattle.list_core.specs.declared.walk.Visit.{Visit}
use Rattle.list_core.proofs.Walking.{none_left, walk_done, walk_more}
use Rattle.list_core.proofs.walk.walk.Goals as goal

pub loop-count-preserved : goal.loop-count-preserved
loop-count-preserved c =
    let d = c.args.direction in
    let s = state_of c.args.shop.now in
    let steps = c.loop-count.steps.items in
    let visit = c.in-Some.visit in
    let rest = c.pop_front.new.self.items in
    let left = most_steps - (c.loop-count._count + 1) in
    let step : Bool → Step = λ b. record { node = visit.node; how = visit.how; depth = visit.depth; above = b } in
    let lt : c.loop-count._count < most_steps = c.loop-count-test.true in
    let popped : c.loop-count.visits.items ≡ visit ∷ rest = c.in-Some.ensures.items in
    let seen : c.has.result ≡ is_shown visit.node steps = c.has.ensures steps c.loop-count.invariant.1 in
    let put : c.put_after_step.new.visits.items ≡ visits_after d s (step c.has.result) ++ rest =
    c.in_ok-put_after_step.ensures in
    let pushed : c.push.new.self.items ≡ steps ++ step c.has.result ∷ [] = c.in_ok-push.ensures.items in (
      ap (λ (ss : List Step). walk_from left d s ss c.put_after_step.new.visits.items) pushed
          ∙ ap (λ (vs : List Visit). walk_from left d s (steps ++ step c.has.result ∷ []) vs) put
          ∙ ap (λ (b : Bool). walk_from left d s (steps ++ step b ∷ []) (visits_after d s (step b) ++ rest)) seen
          ∙ sym (walk_more most_steps c.loop-count._count d s steps visit rest lt)
          ∙ ap (λ (vs : List Visit). walk_from (most_steps - c.loop-count._count) d s steps vs) (sym popped)
          ∙ c.loop-count.invariant.0,
      subst (λ (ss : List Step). AreShown c.add.new.self ss) (sym pushed)
          (c.in_ok-add.ensures steps (step c.has.result) refl c.loop-count.invariant.1),
    )

pub returns-in-None : goal.returns-in-None
returns-in-None c =
    let d = c.args.direction in
    let s = state_of c.args.shop.now in
    let none : c.loop-count.visits.items ≡ [] =
    none_left c.loop-count.visits.items (c.in-None.ensures.items ∙ c.in-None.ensures.rest) in
    sym c.loop-count.invariant.0
    ∙ ap (λ (vs : List Visit). walk_from (most_steps - c.loop-count._count) d s c.loop-count.steps.items vs) none
    ∙ walk_done (most_steps - c.loop-count._count) d s c.loop-count.steps.items
