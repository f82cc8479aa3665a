use Rattle.std.proofs.Common.{◌++◌, map, subst}
use Rattle.std.proofs.lemmas.List.{take_all}
use Rattle.yard_core.specs.Climbs.{in_rows}
use Rattle.yard_core.specs.Equations.{entry_share, item_share, shares_of}
use Rattle.yard_core.specs.Shares.{AreTotals}
use Rattle.yard_core.proofs.opening.equations.holds.Goals as goal

pub returns : goal.returns
returns c =
    let rows = map (λ x. x.now) c.args.rows.now in
    let e = c.args.equation in
    c.are_even.ensures (shares_of e rows c.args.entries.now)
    (subst (λ xs. AreTotals c.loop-item.totals (map (entry_share e) c.args.entries.now
    ++ map (item_share e (in_rows rows)) (map (λ x. x.now) xs)))
    (take_all c.loop-item.item-index c.args.rows.now c.loop-item-test.false) c.loop-item.invariant)
