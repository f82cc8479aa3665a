use Rattle.std.proofs.Common.{◌≡◌, ◌++◌, drop, map}
use Rattle.list_core.specs.Trace.{root_visit}
use Rattle.list_core.proofs.walk.root_visits.Given as goal

-- the visits so far and those of what is left are all
abbrev pub invariant-loop-root : goal.invariant-loop-root
invariant-loop-root l = l.visits.items ++ map root_visit (drop l.root-index l.roots) ≡ map root_visit l.roots
