use Rattle.std.proofs.Common.{◌≡◌}
use Rattle.list_core.proofs.near_names.NearNames.catch_up.Given as goal

-- the numbers before this one were looked at
abbrev pub invariant-loop-number : goal.invariant-loop-number
invariant-loop-number l = l.self.next ≡ l.number
