use Rattle.std.proofs.Common.{◌≡◌, map, take}
use Rattle.table_store.specs.Schema.{table_of, all_names}
use Rattle.table_store.proofs.shape.first_odd.Given as goal

-- so far each table is that of its place
abbrev pub invariant-loop-place : goal.invariant-loop-place
invariant-loop-place l = take l.place l.tables ≡ map table_of (take l.place all_names)
