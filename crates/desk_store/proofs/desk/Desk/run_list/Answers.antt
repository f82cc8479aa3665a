use Rattle.std.proofs.Common.{◌≡◌, ◌+◌, ◌++◌, ◌∷◌, [], is_some, length, take, sym, ap, ◌∙◌, subst, arith}
use Rattle.std.proofs.lemmas.Grind.{common_steps}
use Rattle.std.proofs.lemmas.List.{take_all, take_more}
use Rattle.desk_core.specs.Machine.{AreDrawn, answers_of, entries_in, entries_of, ids_of}
use Rattle.desk_core.specs.ShopView.{state_of}
use Rattle.desk_core.proofs.InOrder.{in_order}
use Rattle.desk_core.proofs.Steps.{told_in}
use Rattle.desk_store.specs.Outcomes.{answered, told}
use Rattle.desk_store.proofs.Runs.{ClosesBy, closes_push, left_at, run_push, stopped_anew}
use Rattle.desk_store.proofs.desk.Desk.run_list.Goals as goal

pub loop-request-preserved : goal.loop-request-preserved
loop-request-preserved g c =
    let i = c.loop-request.request-index in
    let requests = c.args.requests.now in
    let outcomes = c.loop-request.outcomes.items in
    let request = c.request-item.result in
    let before = c.loop-request.self in
    let after = c.run-outcome.new.self in
    let o = c.run-outcome.result in
    let more : take (i + 1) requests ≡ take i requests ++ request ∷ [] =
    take_more requests i request c.loop-request-test.true
    ∙ ap (λ x. take i requests ++ x ∷ []) (sym c.request-item.is) in
    let long : length (take i requests) ≡ length outcomes = grind (arith, common_steps) in
    let by : ClosesBy o (is_some before.failed) (is_some after.failed) =
    record { closed = c.run-outcome.ensures.closed; store = c.run-outcome.ensures.store } in
    record {
      desk = c.run-outcome.ensures.desk;
      ran = rw (c.push_reserved.ensures.items, more)
          (run_push (state_of c.args.self.now.shop) (take i requests) outcomes (state_of before.shop) request o
          (state_of after.shop) long c.loop-request.invariant.ran c.run-outcome.ensures.tells);
      stopped = rw (c.push_reserved.ensures.items, more)
          (stopped_anew (state_of before.shop) (state_of after.shop) (take i requests) outcomes request o
          (is_some c.args.self.now.failed) (is_some before.failed) (is_some after.failed) long
          c.loop-request.invariant.closes by c.run-outcome.ensures.tells c.loop-request.invariant.stopped);
      count = grind (arith, common_steps, c.push_reserved.ensures.items);
      room = grind (arith, common_steps);
      closes =
          rw c.push_reserved.ensures.items
          (closes_push (is_some c.args.self.now.failed) (is_some before.failed) (is_some after.failed) outcomes o
          c.loop-request.invariant.closes by);
      left = rw (c.push_reserved.ensures.items, more)
          (left_at g.S.Store (take i requests) outcomes request o c.args.self.now.failed before after long
          c.loop-request.invariant.closes by c.loop-request.invariant.desk c.run-outcome.ensures.desk
          c.run-outcome.ensures.tells c.run-outcome.ensures.crash c.run-outcome.ensures.idle
          c.loop-request.invariant.left);
    }

pub returns-clause-drawn : goal.returns-clause-drawn
returns-clause-drawn g c =
    let old = state_of c.args.self.now.shop in
    let outcomes = c.loop-request.outcomes.items in
    let all : take c.loop-request.request-index c.args.requests.now ≡ c.args.requests.now =
    take_all c.loop-request.request-index c.args.requests.now (omega arith) in
    subst (λ rs. AreDrawn old.counter.next (ids_of (answers_of old (answered rs outcomes)))
    (state_of c.loop-request.self.shop).counter.next)
    all
    (told_in old c.requires.sound (answered (take c.loop-request.request-index c.args.requests.now) outcomes)
    (state_of c.loop-request.self.shop) (told outcomes) c.loop-request.invariant.ran).drawn

pub returns-clause-written : goal.returns-clause-written
returns-clause-written g c =
    let old = state_of c.args.self.now.shop in
    let outcomes = c.loop-request.outcomes.items in
    let all : take c.loop-request.request-index c.args.requests.now ≡ c.args.requests.now =
    take_all c.loop-request.request-index c.args.requests.now (omega arith) in
    subst (λ rs. entries_in (state_of c.loop-request.self.shop)
    ≡ entries_in old + entries_of (answers_of old (answered rs outcomes)))
    all
    (told_in old c.requires.sound (answered (take c.loop-request.request-index c.args.requests.now) outcomes)
    (state_of c.loop-request.self.shop) (told outcomes) c.loop-request.invariant.ran).written

pub returns-clause-in_order : goal.returns-clause-in_order
returns-clause-in_order g c = in_order (state_of c.loop-request.self.shop) c.loop-request.invariant.desk.sound

pub returns-in_err-outcomes-clause-in_order : goal.returns-in_err-outcomes-clause-in_order
returns-in_err-outcomes-clause-in_order g c = in_order (state_of c.args.self.now.shop) c.requires.sound
