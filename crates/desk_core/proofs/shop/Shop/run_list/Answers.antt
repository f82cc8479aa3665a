use Rattle.std.proofs.Common.{◌≡◌, ◌+◌, ◌++◌, ◌∷◌, [], length, take, sym, ap, ◌∙◌, subst, arith}
use Rattle.std.proofs.lemmas.Grind.{common_steps}
use Rattle.std.proofs.lemmas.List.{take_all, take_more}
use Rattle.desk_core.specs.Machine.{AreDrawn, answered, answers_of, entries_in, entries_of, ids_of, told}
use Rattle.desk_core.specs.ShopView.{state_of}
use Rattle.desk_core.proofs.InOrder.{in_order}
use Rattle.desk_core.proofs.Steps.{run-push, told_in}
use Rattle.desk_core.proofs.shop.Shop.run_list.Goals as goal

pub loop-request-preserved : goal.loop-request-preserved
loop-request-preserved c =
    let i = c.loop-request.request-index in
    let requests = c.args.requests.now in
    let outcomes = c.loop-request.outcomes.items in
    let request = c.request-item.result in
    let more : take (i + 1) requests ≡ take i requests ++ request ∷ [] =
    take_more requests i request c.loop-request-test.true
    ∙ ap (λ x. take i requests ++ x ∷ []) (sym c.request-item.is) in
    let long : length (take i requests) ≡ length outcomes = grind (arith, common_steps) in
    record {
      ran = rw (c.push_reserved.ensures.items, more)
          (run-push (state_of c.args.self.now) (take i requests) outcomes (state_of c.loop-request.self) request
          c.decide-outcome.result _ long c.loop-request.invariant.ran c.decide-outcome.ensures.decides);
      count = grind (arith, common_steps, c.push_reserved.ensures.items);
      room = grind (arith, common_steps);
      sound = c.decide-outcome.ensures.sound;
    }

pub returns-clause-drawn : goal.returns-clause-drawn
returns-clause-drawn c =
    let outcomes = c.loop-request.outcomes.items in
    let all : take c.loop-request.request-index c.args.requests.now ≡ c.args.requests.now =
    take_all c.loop-request.request-index c.args.requests.now (omega arith) in
    subst (λ rs. AreDrawn (state_of c.args.self.now).counter.next
    (ids_of (answers_of (state_of c.args.self.now) (answered rs outcomes))) (state_of c.loop-request.self).counter.next)
    all
    (told_in (state_of c.args.self.now) c.requires
    (answered (take c.loop-request.request-index c.args.requests.now) outcomes)
    (state_of c.loop-request.self) (told outcomes) c.loop-request.invariant.ran).drawn

pub returns-clause-written : goal.returns-clause-written
returns-clause-written c =
    let outcomes = c.loop-request.outcomes.items in
    let all : take c.loop-request.request-index c.args.requests.now ≡ c.args.requests.now =
    take_all c.loop-request.request-index c.args.requests.now (omega arith) in
    subst (λ rs. entries_in (state_of c.loop-request.self)
    ≡ entries_in (state_of c.args.self.now) + entries_of (answers_of (state_of c.args.self.now) (answered rs outcomes)))
    all
    (told_in (state_of c.args.self.now) c.requires
    (answered (take c.loop-request.request-index c.args.requests.now) outcomes)
    (state_of c.loop-request.self) (told outcomes) c.loop-request.invariant.ran).written

pub returns-clause-in_order : goal.returns-clause-in_order
returns-clause-in_order c = in_order (state_of c.loop-request.self) c.loop-request.invariant.sound

pub returns-in_err-outcomes-clause-in_order : goal.returns-in_err-outcomes-clause-in_order
returns-in_err-outcomes-clause-in_order c = in_order (state_of c.args.self.now) c.requires
