use Rattle.std.proofs.Common.{◌≡◌, map, take}
use Rattle.table_store.specs.Schema.{column_of}
use Rattle.table_store.proofs.shape.are_columns.Given as goal

-- so far the columns are those
abbrev pub invariant-loop-at : goal.invariant-loop-at
invariant-loop-at l = take l.at l.columns ≡ map (λ w. column_of w.1 w.2 w.0.now) (take l.at l.wanted)
