use Rattle.std.proofs.Common.{◌-◌, refl, sym, ap, ◌∙◌, true≢false, arith}
use Rattle.std.specs.Ordering.{is_lt}
use Rattle.table_store.proofs.Rising.{rise-from, rise-not}
use Rattle.table_store.proofs.read.are_keys_rising.Goals as goal

pub returns-then-not-is_lt : goal.returns-then-not-is_lt
returns-then-not-is_lt g c =
    let key_of = g.R.Row.key_of in
    let at = c.loop-at.at in
    let falls =
    rise-not key_of c.args.rows.now (at - 1) at c.index-rows-at.result
    (g.R.Key.RowKey.digits c.loop-at.last) (g.R.Key.RowKey.digits c.in_ok-key.key)
    (omega (arith, c.loop-at.auto.at)) c.loop-at-test.true (c.loop-at.invariant.last c.index-rows-at.result)
    (c.in_ok-key.ensures ∙ ap key_of c.index-rows-at.is)
    (ap is_lt (sym c.compare.ensures) ∙ sym c.if-not-is_lt.ensures) in
    (λ h. absurd (true≢false (sym h)), λ h. absurd (falls h))

pub returns : goal.returns
returns g c = (
  λ h. rise-from g.R.Row.key_of c.args.rows.now
      (λ k d p. c.loop-at.invariant.rise k d (omega (arith, p, c.loop-at-test.false)) p),
  λ h. refl,
)
