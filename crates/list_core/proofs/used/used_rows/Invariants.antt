use Rattle.std.proofs.Common.{◌≡◌, ◌++◌, drop, map}
use Rattle.std.specs.Prelude.{flat_map}
use Rattle.list_core.specs.Used.{used_row}
use Rattle.list_core.proofs.used.used_rows.Given as goal

-- the rows so far and those of what is left are all
abbrev pub invariant-loop-item : goal.invariant-loop-item
invariant-loop-item l =
    l.rows.items ++ flat_map used_row (map (λ i. i.now) (drop l.item-index l.items))
    ≡ flat_map used_row (map (λ i. i.now) l.items)
