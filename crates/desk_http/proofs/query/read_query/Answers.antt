use Rattle.std.proofs.Common.{◌∙◌, ◌+◌, drop, length, eqb, ap, sym, arith, rules, tests}
use Rattle.std.specs.List.{slice_split}
use Rattle.std.proofs.lemmas.List.{at_drop_all, length_push}
use Rattle.std.proofs.lemmas.Iterator.Consumers.{YieldsList-at}
use Rattle.std.proofs.lemmas.Iterator.Splits.{YieldsList-from_slice_split}
use Rattle.desk_http.specs.Targets.{◌then◌, words_said}
use Rattle.desk_http.proofs.Queries.{all_came, comes_next, word_turn}
use Rattle.desk_http.proofs.query.read_query.Goals as goal

pub returns-in_default : goal.returns-in_default
returns-in_default c =
    let turn =
    comes_next c.loop-word.yielded _ c.loop-word.yielded_by _ _ c.in-Some.word c.in-Some.is c.next.ensures.steps
    (YieldsList-at (cc) (YieldsList-from_slice_split {s = c.split-word-items.result} _ (λ b. eqb b 38) c.args.text.now
    c.split-word-items.ensures.rest c.split-word-items.ensures.done c.split-word-items.ensures.closure
    (λ x r q k. search (rules, tests)))) in
    let parts = slice_split (λ b. eqb b 38) c.args.text.now in
    ap (λ o. o then λ more. words_said more (drop (length c.loop-word.yielded + 1) parts)) c.in_default.ensures
    ∙ sym (word_turn c.loop-word.said parts (length c.loop-word.yielded) c.in-Some.word.now turn) ∙ c.loop-word.invariant

pub loop-word-preserved : goal.loop-word-preserved
loop-word-preserved c =
    let turn =
    comes_next c.loop-word.yielded _ c.loop-word.yielded_by _ _ c.in-Some.word c.in-Some.is c.next.ensures.steps
    (YieldsList-at (cc) (YieldsList-from_slice_split {s = c.split-word-items.result} _ (λ b. eqb b 38) c.args.text.now
    c.split-word-items.ensures.rest c.split-word-items.ensures.done c.split-word-items.ensures.closure
    (λ x r q k. search (rules, tests)))) in
    let parts = slice_split (λ b. eqb b 38) c.args.text.now in
    ap (λ k. words_said c.in-Some-add_word.more (drop k parts)) (length_push c.loop-word.yielded c.in-Some.word)
    ∙ ap (λ o. o then λ more. words_said more (drop (length c.loop-word.yielded + 1) parts)) c.in-Some-add_word.ensures
    ∙ sym (word_turn c.loop-word.said parts (length c.loop-word.yielded) c.in-Some.word.now turn) ∙ c.loop-word.invariant

pub returns : goal.returns
returns c =
    let end =
    all_came c.loop-word.yielded _ c.loop-word.yielded_by _ _ c.in-None.is c.next.ensures.steps
    (YieldsList-at (cc) (YieldsList-from_slice_split {s = c.split-word-items.result} _ (λ b. eqb b 38) c.args.text.now
    c.split-word-items.ensures.rest c.split-word-items.ensures.done c.split-word-items.ensures.closure
    (λ x r q k. search (rules, tests)))) in
    sym (at_drop_all (words_said c.loop-word.said) (slice_split (λ b. eqb b 38) c.args.text.now)
    (length c.loop-word.yielded) (omega (arith, end.1)))
    ∙ c.loop-word.invariant
