use Rattle.std.proofs.Common.{◌≡◌, ◌++◌, ◌≤◌, drop, length, map}
use Rattle.list_core.specs.Trace.{visit_at}
use Rattle.list_core.proofs.walk.put_before.Given as goal

-- the children from there on stand before the rest
abbrev pub invariant-loop-left : goal.invariant-loop-left
invariant-loop-left l =
    (l.left ≤ length l.children)
    × (l.visits.items ≡ map (visit_at l.depth) (drop l.left l.children) ++ l.initial.visits.items)

abbrev pub decreases-loop-left : goal.decreases-loop-left
decreases-loop-left l = l.left
