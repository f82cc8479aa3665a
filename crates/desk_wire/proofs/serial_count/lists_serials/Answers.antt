use Rattle.std.proofs.Common.{◌+◌, drop, length, map, eqb, lit<, sym, ap, ◌∙◌, arith}
use Rattle.std.specs.List.{slice_split}
use Rattle.std.proofs.lemmas.List.{at_drop_all, length_push}
use Rattle.std.proofs.lemmas.Iterator.Consumers.{YieldsList-turn, YieldsList-end}
use Rattle.std.proofs.lemmas.Iterator.Splits.{YieldsList-from_str_split}
use Rattle.word_core.specs.Serials.{element_serials}
use Rattle.desk_wire.proofs.SerialLists.{rest_good, element_turn, element_bad, element_over, element_good}
use Rattle.desk_wire.proofs.serial_count.lists_serials.Goals as goal

pub returns-in_default : goal.returns-in_default
returns-in_default c =
    let turn =
    YieldsList-turn (YieldsList-from_str_split 44 c.args.text.now (lit< tt) (cc) (cc) (cc)) c.loop-element.yielded _
    c.loop-element.yielded_by _ _ c.in-Some.element c.in-Some.is c.next.ensures.steps in
    sym (element_bad _ _ _ c.in_default.ensures) ∙ sym (element_turn _ _ _ _ turn) ∙ c.loop-element.invariant.so_far

pub returns-then-count-gt-MOST_SERIALS : goal.returns-then-count-gt-MOST_SERIALS
returns-then-count-gt-MOST_SERIALS c =
    let turn =
    YieldsList-turn (YieldsList-from_str_split 44 c.args.text.now (lit< tt) (cc) (cc) (cc)) c.loop-element.yielded _
    c.loop-element.yielded_by _ _ c.in-Some.element c.in-Some.is c.next.ensures.steps in
    sym (element_over _ c.in-Some-count_in.more _ _ c.in-Some-count_in.ensures (omega arith))
    ∙ sym (element_turn _ _ _ _ turn) ∙ c.loop-element.invariant.so_far

pub loop-element-preserved : goal.loop-element-preserved
loop-element-preserved c =
    let turn =
    YieldsList-turn (YieldsList-from_str_split 44 c.args.text.now (lit< tt) (cc) (cc) (cc)) c.loop-element.yielded _
    c.loop-element.yielded_by _ _ c.in-Some.element c.in-Some.is c.next.ensures.steps in
    let parts = slice_split (λ b. eqb b 44) c.args.text.now in
    let count = c.loop-element.count + c.in-Some-count_in.more in
    record {
      few = omega arith;
      so_far =
          ap (λ k. rest_good count (map element_serials (drop k parts)))
          (length_push c.loop-element.yielded c.in-Some.element)
          ∙ sym (element_turn _ _ _ _ turn
          ∙ element_good _ c.in-Some-count_in.more _ _ c.in-Some-count_in.ensures (omega arith))
          ∙ c.loop-element.invariant.so_far;
    }

pub returns : goal.returns
returns c =
    let end =
    YieldsList-end (YieldsList-from_str_split 44 c.args.text.now (lit< tt) (cc) (cc) (cc)) c.loop-element.yielded _
    c.loop-element.yielded_by _ _ c.in-None.is c.next.ensures.steps in
    sym (at_drop_all (λ elements. rest_good c.loop-element.count (map element_serials elements))
    (slice_split (λ b. eqb b 44) c.args.text.now) (length c.loop-element.yielded) (omega (arith, end.1)))
    ∙ c.loop-element.invariant.so_far
