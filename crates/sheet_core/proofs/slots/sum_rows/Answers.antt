use Rattle.std.proofs.Common.{◌≡◌, option_copied, refl, sym, ap, ◌∙◌, arith}
use Rattle.sheet_core.specs.Slots.{now_row}
use Rattle.sheet_core.proofs.Scans.{measured, sum-from}
use Rattle.sheet_core.proofs.slots.sum_rows.Goals.{in-Some, in_default}
use Rattle.sheet_core.proofs.slots.sum_rows.Goals as goal

pub loop-i-preserved : goal.loop-i-preserved
loop-i-preserved g c = record {
  callable = c.loop-i.invariant.callable;
  bound = elim c.match-row.branch [
    | in-Some w ↦ let is = w.total-is in omega arith
    | in_default w ↦ let is = w.total-is in omega arith
  ];
  left = λ f is.
      let h = c.index.result.now in
      let step =
      sum-from g.R.Key.RowKey.digits c.args.slots.now.entries c.loop-i.i h c.index.ensures f in
      let before = c.loop-i.invariant.left f is in
      elim c.match-row.branch [
        | in-Some w ↦
            let answer : w.measure.result ≡ f w.in-Some.row.now =
            is w.in-Some.row.now w.measure.result
            (record { shown = _; shows = refl; says = record { met = w.measure.ensures } }) in
            let one : measured f (now_row h) ≡ f w.in-Some.row.now =
            ap (measured f) (sym c.row.ensures ∙ ap option_copied w.in-Some.is) in
            let total = w.total-is in
            omega (arith, step, before, answer, one, total)
        | in_default w ↦
            let none : measured f (now_row h) ≡ 0 = ap (measured f) (sym c.row.ensures ∙ ap option_copied w.in_default.is) in
            let total = w.total-is in
            omega (arith, step, before, none, total)
      ];
}
