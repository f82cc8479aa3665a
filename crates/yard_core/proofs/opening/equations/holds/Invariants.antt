use Rattle.std.proofs.Common.{◌++◌, map, take}
use Rattle.yard_core.specs.Climbs.{in_rows}
use Rattle.yard_core.specs.Equations.{entry_share, item_share}
use Rattle.yard_core.specs.Shares.{AreTotals}
use Rattle.yard_core.proofs.opening.equations.holds.Given as goal

abbrev pub invariant-loop-entry : goal.invariant-loop-entry
invariant-loop-entry l = AreTotals l.totals (map (entry_share l.equation) (take l.entry-index l.entries))

abbrev pub invariant-loop-item : goal.invariant-loop-item
invariant-loop-item l =
    AreTotals l.totals (map (entry_share l.equation) l.entries
    ++ map (item_share l.equation (in_rows (map (λ x. x.now) l.rows))) (map (λ x. x.now) (take l.item-index l.rows)))
