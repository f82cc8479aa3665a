use Rattle.std.proofs.Common.{◌≡◌, Some, None, refl, sym, ap, ◌∙◌}
use Rattle.std.specs.List.{list_any}
use Rattle.std.specs.Map.Iter.{deref}
use Rattle.std.proofs.lemmas.Map.Iter.{rest_all}
use Rattle.sheet_core.specs.Index.{numbers_of, rows_at}
use Rattle.sheet_core.specs.Sheet.{now_of}
use Rattle.sheet_core.proofs.FiledRows.{any-at_left, any-at_met}
use Rattle.sheet_core.proofs.Scans.{of_rows}
use Rattle.sheet_core.proofs.index.Index.any_row.Goals as goal

pub loop-filing-init : goal.loop-filing-init
loop-filing-init g c = record {
  callable = c.requires;
  left =
      λ p is. ap (λ fs. list_any p (of_rows (rows_at (now_of c.args.sheet.now) (numbers_of fs))))
      (c.into_iter-filing-iterator.ensures.into_iter_gives ∙ c.under-filing-items.ensures.filed);
}

pub returns-then-test-clause-any : goal.returns-then-test-clause-any
returns-then-test-clause-any g c = λ p is.
    let x = c.in-Some-get.row.now in
    let answer : c.test.result ≡ p x =
    is x c.test.result (record { shown = _; shows = refl; says = record { met = c.test.ensures } }) in
    sym (sym (c.loop-filing.invariant.left p is)
    ∙ any-at_met p (now_of c.args.sheet.now) _ (numbers_of c.next.new.self) c.in-Some.filing.now.number
    (ap (λ fs. numbers_of fs) c.in-Some.ensures.steps) x (sym c.in-Some-get.ensures) (sym answer ∙ c.if-test.true))

pub loop-filing-preserved-else-test : goal.loop-filing-preserved-else-test
loop-filing-preserved-else-test g c = record {
  callable = c.loop-filing.invariant.callable;
  left = λ p is.
      let x = c.in-Some-get.row.now in
      let answer : c.test.result ≡ p x =
      is x c.test.result (record { shown = _; shows = refl; says = record { met = c.test.ensures } }) in
      sym (any-at_left p (now_of c.args.sheet.now) _ (numbers_of c.next.new.self) c.in-Some.filing.now.number
      (ap (λ fs. numbers_of fs) c.in-Some.ensures.steps) (Some x) (sym c.in-Some-get.ensures) (sym answer ∙ c.if-test.false))
      ∙ c.loop-filing.invariant.left p is;
}

pub loop-filing-preserved : goal.loop-filing-preserved
loop-filing-preserved g c = record {
  callable = c.loop-filing.invariant.callable;
  left = λ p is.
      sym (any-at_left p (now_of c.args.sheet.now) _ (numbers_of c.next.new.self) c.in-Some.filing.now.number
      (ap (λ fs. numbers_of fs) c.in-Some.ensures.steps) None (sym c.in_default.ensures) refl) ∙ c.loop-filing.invariant.left p is;
}

pub returns-clause-any : goal.returns-clause-any
returns-clause-any g c = λ p is.
    sym (ap (λ fs. list_any p (of_rows (rows_at (now_of c.args.sheet.now) (numbers_of fs))))
    (rest_all deref c.loop-filing.filing-iterator c.next.new.self c.next.result c.in-None.is c.next.ensures.steps))
    ∙ c.loop-filing.invariant.left p is
