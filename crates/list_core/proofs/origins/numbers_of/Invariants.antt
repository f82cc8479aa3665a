use Rattle.std.proofs.Common.{◌≡◌, ◌++◌, drop, map}
use Rattle.list_core.proofs.origins.numbers_of.Given as goal

-- the numbers so far and those of what is left are all
abbrev pub invariant-loop-row : goal.invariant-loop-row
invariant-loop-row l =
    l.numbers.items ++ map (λ o. o.number) (map (λ o. o.now) (drop l.row-index l.rows))
    ≡ map (λ o. o.number) (map (λ o. o.now) l.rows)
