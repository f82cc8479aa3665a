use Rattle.std.proofs.Common.{◌≡◌, ◌++◌, drop, map}
use Rattle.list_core.specs.Origins.{origin_of, origins_of}
use Rattle.list_core.proofs.origins.push_origins.Given as goal

-- the rows so far and those of the numbers that are left are all
abbrev pub invariant-loop-number : goal.invariant-loop-number
invariant-loop-number l =
    l.rows.items ++ map (origin_of l.kept) (drop l.number-index l.numbers)
    ≡ l.initial.rows.items ++ map (origin_of l.kept) l.numbers
