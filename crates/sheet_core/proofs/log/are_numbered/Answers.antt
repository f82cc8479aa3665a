use Rattle.std.proofs.Common.{◌≡◌, ◌+◌, ◌∷◌, [], true, false, take, sym, ap, ◌∙◌, arith}
use Rattle.std.proofs.lemmas.List.{length-take-le, take_more}
use Rattle.sheet_core.proofs.Logs.{AreNumbered-push, number_at}
use Rattle.sheet_core.proofs.RowLemmas.{same_digit}
use Rattle.sheet_core.proofs.log.are_numbered.Goals as goal

pub returns-then-number-i : goal.returns-then-number-i
returns-then-number-i g c = (
  λ no. (let e : false ≡ true = no in cc),
  λ run.
      let is = number_at g.R.Row.key_of 1 c.args.rows.now c.loop-i.i c.index-rows-i.result run c.loop-i-test.true in
      let same =
      same_digit c.in_ok-number.number (1 + c.loop-i.i)
      (c.in_ok-number.ensures ∙ ap g.R.Row.key_of c.index-rows-i.is ∙ is) in
      absurd (c.if-number-i.true (omega (arith, same))),
)

pub loop-i-preserved : goal.loop-i-preserved
loop-i-preserved g c =
    let rows = c.args.rows.now in
    let i = c.loop-i.i in
    let lt = c.loop-i-test.true in
    let len = length-take-le i rows (omega (arith, lt)) in
    let next = ap (λ n. n ∷ []) (omega (arith, c.if-number-i.false, len)) in
    rw (take_more rows i c.index-rows-i.result lt)
    (AreNumbered-push g.R.Row.key_of 1 (take i rows) _ c.loop-i.invariant
    (sym (ap g.R.Row.key_of c.index-rows-i.is) ∙ sym c.in_ok-number.ensures ∙ next))
