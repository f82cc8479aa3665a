use Rattle.std.proofs.Common.{◌≡◌, ◌++◌, drop, map}
use Rattle.list_core.proofs.trace_list.numbers_of.Given as goal

-- the numbers so far and those of what is left are all
abbrev pub invariant-loop-item : goal.invariant-loop-item
invariant-loop-item l =
    l.numbers.items ++ map (λ x. x.number) (map (λ i. i.now) (drop l.item-index l.items))
    ≡ map (λ x. x.number) (map (λ i. i.now) l.items)
