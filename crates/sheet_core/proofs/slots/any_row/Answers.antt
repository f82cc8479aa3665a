use Rattle.std.proofs.Common.{◌≡◌, false, option_copied, refl, sym, ap, ◌∙◌}
use Rattle.sheet_core.specs.Slots.{now_row}
use Rattle.sheet_core.proofs.Scans.{any-from_left, any-from_met, passes}
use Rattle.sheet_core.proofs.slots.any_row.Goals.{in-Some+else-test, in_default}
use Rattle.sheet_core.proofs.slots.any_row.Goals as goal

pub returns-then-test : goal.returns-then-test
returns-then-test g c p is =
    let x = c.in-Some.row.now in
    let answer : c.test.result ≡ p x =
    is x c.test.result (record { shown = _; shows = refl; says = record { met = c.test.ensures } }) in
    sym (sym (c.loop-i.invariant.left p is)
    ∙ any-from_met g.R.Key.RowKey.digits c.args.slots.now.entries c.loop-i.i c.index.result.now c.index.ensures p x
    (sym c.row.ensures ∙ ap option_copied c.in-Some.is) (sym answer ∙ c.if-test.true))

pub loop-i-preserved : goal.loop-i-preserved
loop-i-preserved g c = record {
  callable = c.loop-i.invariant.callable;
  left = λ p is.
      let none : passes p (now_row c.index.result.now) ≡ false = elim c.match-row.branch [
        | in-Some+else-test w ↦
            let answer : w.test.result ≡ p w.in-Some.row.now =
            is w.in-Some.row.now w.test.result
            (record { shown = _; shows = refl; says = record { met = w.test.ensures } }) in
            ap (passes p) (sym c.row.ensures ∙ ap option_copied w.in-Some.is) ∙ sym answer ∙ w.if-test.false
        | in_default w ↦ ap (passes p) (sym c.row.ensures ∙ ap option_copied w.in_default.is)
      ] in
      sym (any-from_left g.R.Key.RowKey.digits c.args.slots.now.entries c.loop-i.i c.index.result.now c.index.ensures p none)
      ∙ c.loop-i.invariant.left p is;
}
