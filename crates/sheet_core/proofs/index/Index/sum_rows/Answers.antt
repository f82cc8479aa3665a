use Rattle.std.proofs.Common.{◌≡◌, ◌+◌, ◌∷◌, [], length, refl, sym, ap, ◌∙◌, arith}
use Rattle.std.specs.Prelude.{sum_by}
use Rattle.std.specs.FinMap as table
use Rattle.sheet_core.specs.Index.{numbers_of, rows_at}
use Rattle.sheet_core.specs.Sheet.{now_of}
use Rattle.sheet_core.proofs.FiledSums.{few-under}
use Rattle.sheet_core.proofs.Scans.{measured, of_rows, sum-with_row}
use Rattle.sheet_core.proofs.index.Index.sum_rows.Goals as goal

pub loop-filing-init : goal.loop-filing-init
loop-filing-init g c = record {
  callable = c.requires;
  bound =
      (let few = few-under c.args.key c.args.self.now.filings.keys c.under-filing-items.ensures.rise in
      let len =
      ap (λ fs. length (numbers_of fs))
      (c.into_iter-filing-iterator.ensures.into_iter_gives ∙ c.under-filing-items.ensures.filed) in
      omega (arith, few, len));
  left = λ f is.
      let same =
      ap (λ fs. sum_by f (of_rows (rows_at (now_of c.args.sheet.now) (numbers_of fs))))
      (c.into_iter-filing-iterator.ensures.into_iter_gives ∙ c.under-filing-items.ensures.filed) in
      omega (arith, same);
}

pub loop-filing-preserved-in-Some-get : goal.loop-filing-preserved-in-Some-get
loop-filing-preserved-in-Some-get g c = record {
  callable = c.loop-filing.invariant.callable;
  bound =
      (let ns = numbers_of c.next.new.self in
      let one : length (c.in-Some.filing.now.number ∷ ns) ≡ 1 + length ns = omega arith in
      let len = ap (λ fs. length (numbers_of fs)) c.in-Some.ensures.steps in
      omega (arith, c.loop-filing.invariant.bound, len, one, c.from-total.ensures, c.measure.type_inv));
  left = λ f is.
      let t = now_of c.args.sheet.now in
      let n = c.in-Some.filing.now.number in
      let rest = rows_at t (numbers_of c.next.new.self) in
      let step =
      ap (λ fs. sum_by f (of_rows (rows_at t (numbers_of fs)))) c.in-Some.ensures.steps
      ∙ sum-with_row f (n ∷ []) (table.get t (n ∷ [])) rest in
      let row = sym c.in-Some-get.ensures in
      let x = c.in-Some-get.row.now in
      let answer : c.measure.result ≡ f x =
      is x c.measure.result (record { shown = _; shows = refl; says = record { met = c.measure.ensures } }) in
      let one : measured f (table.get t (n ∷ [])) ≡ f x = ap (measured f) row in
      omega (arith, step, c.loop-filing.invariant.left f is, answer, one, c.from-total.ensures);
}
