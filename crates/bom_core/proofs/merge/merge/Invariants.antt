use Rattle.std.proofs.Common.{length, ◌-◌, ◌≡◌, ◌+◌, ◌++◌, drop}
use Rattle.bom_core.specs.Roles.{merged, placed}
use Rattle.bom_core.proofs.Merging.{lent}
use Rattle.bom_core.proofs.merge.merge.Given as goal

abbrev pub invariant-loop-at : goal.invariant-loop-at
invariant-loop-at l =
    lent l.all.items ++ placed l.line.now (merged (lent (drop (l.line-index + 1) l.lines))) (lent (drop l.at l.others))
    ≡ merged (lent l.fn.lines) (lent l.fn.others)

abbrev pub decreases-loop-at : goal.decreases-loop-at
decreases-loop-at l = length l.others - l.at

abbrev pub invariant-loop-line : goal.invariant-loop-line
invariant-loop-line l =
    lent l.all.items ++ merged (lent (drop l.line-index l.lines)) (lent (drop l.at l.others))
    ≡ merged (lent l.fn.lines) (lent l.fn.others)

abbrev pub invariant-loop-at-2 : goal.invariant-loop-at-2
invariant-loop-at-2 l = lent l.all.items ++ lent (drop l.at l.others) ≡ merged (lent l.fn.lines) (lent l.fn.others)

abbrev pub decreases-loop-at-2 : goal.decreases-loop-at-2
decreases-loop-at-2 l = length l.others - l.at
