use Rattle.std.proofs.Common.{◌≡◌, ◌-◌}
use Rattle.desk_core.specs.ShopView.{state_of}
use Rattle.list_core.specs.Shown.{AreShown}
use Rattle.list_core.specs.Trace.{most_steps, walk, walk_from}
use Rattle.list_core.proofs.walk.walk.Given as goal

-- the walk goes on from what was shown so far, and the sets have that
abbrev pub invariant-loop-count : goal.invariant-loop-count
invariant-loop-count l =
    (walk_from (most_steps - l._count) l.direction (state_of l.shop) l.steps.items l.visits.items
    ≡ walk l.direction (state_of l.shop) l.roots)
    × AreShown l.shown l.steps.items
