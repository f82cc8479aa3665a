use Rattle.std.proofs.Common.{◌≡◌, ◌++◌, ◌∷◌, [], map, refl, sym, ap, ◌∙◌, append_assoc, append-nil}
use Rattle.std.specs.Prelude.{filter}
use Rattle.std.specs.Map.Iter.{deref}
use Rattle.std.proofs.lemmas.List.{map-append}
use Rattle.std.proofs.lemmas.Map.Iter.{rest_all}
use Rattle.sheet_core.specs.Index.{numbers_of, rows_at}
use Rattle.sheet_core.specs.Sheet.{now_of}
use Rattle.sheet_core.proofs.FiledRows.{filter-at_left, filter-at_none, filter-at_taken}
use Rattle.sheet_core.proofs.Scans.{of_rows}
use Rattle.sheet_core.proofs.index.Index.find_rows.Goals as goal

pub loop-filed-init : goal.loop-filed-init
loop-filed-init g c = record {
  callable = c.requires;
  found = λ p is.
      ap (λ found. map (λ r. r.now) found
      ++ filter p (of_rows (rows_at (now_of c.args.sheet.now) (numbers_of c.into_iter-filed-iterator.result))))
      c.new-found.ensures.items
      ∙ ap (λ fs. filter p (of_rows (rows_at (now_of c.args.sheet.now) (numbers_of fs))))
      (c.into_iter-filed-iterator.ensures.into_iter_gives ∙ c.under-filed-items.ensures.filed);
}

pub loop-filed-preserved-in-Continue-1 : goal.loop-filed-preserved-in-Continue-1
loop-filed-preserved-in-Continue-1 g c = record {
  callable = c.loop-filed.invariant.callable;
  found = λ p is.
      let x = c.in-Some-get.row.now in
      let answer : c.test.result ≡ p x =
      is x c.test.result (record { shown = _; shows = refl; says = record { met = c.test.ensures } }) in
      let old = map (λ r. r.now) c.loop-filed.found.items in
      let rest = filter p (of_rows (rows_at (now_of c.args.sheet.now) (numbers_of c.next.new.self))) in
      let taken =
      filter-at_taken p (now_of c.args.sheet.now) _ (numbers_of c.next.new.self) c.in-Some.filed.now.number
      (ap (λ fs. numbers_of fs) c.in-Some.ensures.steps) x (sym c.in-Some-get.ensures) (sym answer ∙ c.if-test.true) in
      ap (λ found. map (λ r. r.now) found ++ rest) c.in_ok-push.ensures.items
      ∙ ap (λ found. found ++ rest) (map-append (λ r. r.now) c.loop-filed.found.items (c.in-Some-get.row ∷ []))
      ∙ append_assoc old (x ∷ []) rest
      ∙ ap (λ l. old ++ l) (sym taken)
      ∙ c.loop-filed.invariant.found p is;
}

pub loop-filed-preserved-else-test : goal.loop-filed-preserved-else-test
loop-filed-preserved-else-test g c = record {
  callable = c.loop-filed.invariant.callable;
  found = λ p is.
      let x = c.in-Some-get.row.now in
      let answer : c.test.result ≡ p x =
      is x c.test.result (record { shown = _; shows = refl; says = record { met = c.test.ensures } }) in
      let left =
      filter-at_left p (now_of c.args.sheet.now) _ (numbers_of c.next.new.self) c.in-Some.filed.now.number
      (ap (λ fs. numbers_of fs) c.in-Some.ensures.steps) x (sym c.in-Some-get.ensures) (sym answer ∙ c.if-test.false) in
      ap (λ l. map (λ r. r.now) c.loop-filed.found.items ++ l) (sym left) ∙ c.loop-filed.invariant.found p is;
}

pub loop-filed-preserved : goal.loop-filed-preserved
loop-filed-preserved g c = record {
  callable = c.loop-filed.invariant.callable;
  found = λ p is.
      let left =
      filter-at_none p (now_of c.args.sheet.now) _ (numbers_of c.next.new.self) c.in-Some.filed.now.number
      (ap (λ fs. numbers_of fs) c.in-Some.ensures.steps) (sym c.in_default.ensures) in
      ap (λ l. map (λ r. r.now) c.loop-filed.found.items ++ l) (sym left) ∙ c.loop-filed.invariant.found p is;
}

pub returns-clause-found : goal.returns-clause-found
returns-clause-found g c = λ p is.
    let found = map (λ r. r.now) c.loop-filed.found.items in
    sym (ap (λ fs. found ++ filter p (of_rows (rows_at (now_of c.args.sheet.now) (numbers_of fs))))
    (rest_all deref c.loop-filed.filed-iterator c.next.new.self c.next.result c.in-None.is c.next.ensures.steps)
    ∙ append-nil found)
    ∙ c.loop-filed.invariant.found p is
