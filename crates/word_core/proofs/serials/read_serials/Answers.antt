use Rattle.std.proofs.Common.{◌+◌, drop, length, map, eqb, lit<, sym, ap, ◌∙◌, arith}
use Rattle.std.specs.List.{slice_split}
use Rattle.std.proofs.lemmas.List.{at_drop_all, length_push}
use Rattle.std.proofs.lemmas.Result.{err_from_is_err_and}
use Rattle.std.proofs.lemmas.Iterator.Consumers.{YieldsList-turn, YieldsList-end}
use Rattle.std.proofs.lemmas.Iterator.Splits.{YieldsList-from_str_split}
use Rattle.word_core.specs.Serials.{element_serials}
use Rattle.word_core.proofs.Readings.{continued, continued-nil, continued-turn, continued-err}
use Rattle.word_core.proofs.Readings.{continued-many, continued-ok, serials_in-some, serials_in-few}
use Rattle.word_core.proofs.serials.read_serials.Goals as goal

pub returns-in_err-more-clause-fault : goal.returns-in_err-more-clause-fault
returns-in_err-more-clause-fault c =
    let turn =
    YieldsList-turn (YieldsList-from_str_split 44 c.args.text.now (lit< tt) (cc) (cc) (cc)) c.loop-element.yielded _
    c.loop-element.yielded_by _ _ c.in-Some.element c.in-Some.is c.next.ensures.steps in
    let p = err_from_is_err_and c.from_residual.result c.from_residual.ensures.1 in
    rw (p.1, p.2) (λ real. sym c.loop-element.invariant
    ∙ continued-turn _ _ _ _ turn
    ∙ continued-err _ _ _ _ (c.in_err-more.ensures.fault real))

pub returns-then-len-gt-MOST_SERIALS-clause-fault : goal.returns-then-len-gt-MOST_SERIALS-clause-fault
returns-then-len-gt-MOST_SERIALS-clause-fault c =
    let turn =
    YieldsList-turn (YieldsList-from_str_split 44 c.args.text.now (lit< tt) (cc) (cc) (cc)) c.loop-element.yielded _
    c.loop-element.yielded_by _ _ c.in-Some.element c.in-Some.is c.next.ensures.steps in
    λ _. sym c.loop-element.invariant
    ∙ continued-turn _ _ _ _ turn
    ∙ continued-many _ _ _ _ c.in_ok-more.ensures.read (omega arith)

pub loop-element-preserved : goal.loop-element-preserved
loop-element-preserved c =
    let turn =
    YieldsList-turn (YieldsList-from_str_split 44 c.args.text.now (lit< tt) (cc) (cc) (cc)) c.loop-element.yielded _
    c.loop-element.yielded_by _ _ c.in-Some.element c.in-Some.is c.next.ensures.steps in
    let parts = slice_split (λ b. eqb b 44) c.args.text.now in
    ap (λ k. continued c.append.new.self.items (map element_serials (drop k parts)))
    (length_push c.loop-element.yielded c.in-Some.element)
    ∙ ap (λ s. continued s (map element_serials (drop (length c.loop-element.yielded + 1) parts)))
    c.in_ok-append.ensures.items
    ∙ sym (continued-turn _ _ _ _ turn ∙ continued-ok _ _ _ _ c.in_ok-more.ensures.read (omega arith))
    ∙ c.loop-element.invariant

pub returns-clause-read : goal.returns-clause-read
returns-clause-read c =
    let end =
    YieldsList-end (YieldsList-from_str_split 44 c.args.text.now (lit< tt) (cc) (cc) (cc)) c.loop-element.yielded _
    c.loop-element.yielded_by _ _ c.in-None.is c.next.ensures.steps in
    sym c.loop-element.invariant
    ∙ at_drop_all (λ elements. continued c.loop-element.serials.items (map element_serials elements))
    (slice_split (λ b. eqb b 44) c.args.text.now) (length c.loop-element.yielded) (omega (arith, end.1))
    ∙ continued-nil c.loop-element.serials.items

pub returns-clause-count : goal.returns-clause-count
returns-clause-count c = (
  serials_in-some c.args.text.now _ (returns-clause-read c),
  serials_in-few c.args.text.now _ (returns-clause-read c),
)
