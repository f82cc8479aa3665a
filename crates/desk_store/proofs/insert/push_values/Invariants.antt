use Rattle.std.proofs.Common.{◌≡◌, ◌++◌, drop, false}
use Rattle.desk_store.specs.Dumps.{values_text}
use Rattle.desk_store.proofs.insert.push_values.Given as goal

-- the literals so far and those that are left
abbrev pub invariant-loop-column : goal.invariant-loop-column
invariant-loop-column l =
    l.line.items ++ values_text l.later (drop l.column-index l.columns)
    ≡ l.initial.line.items ++ values_text false l.columns
