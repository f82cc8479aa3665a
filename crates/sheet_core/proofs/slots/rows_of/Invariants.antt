use Rattle.std.proofs.Common.{◌≡◌, map, take}
use Rattle.sheet_core.proofs.slots.rows_of.Given as goal

abbrev pub invariant-loop-one : goal.invariant-loop-one
invariant-loop-one g l = map (λ r. r.now) l.rows.items ≡ map (λ f. f.row.now) (take l.one-index l.found)
