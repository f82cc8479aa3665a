use Rattle.std.proofs.Common.{◌≡◌, drop}
use Rattle.table_store.specs.Stored.{columns_in}
use Rattle.table_store.proofs.Columns.{onto}
use Rattle.table_store.proofs.read.columns_of.Given as goal

-- the columns so far, and those of the values that are left
abbrev pub invariant-loop-at : goal.invariant-loop-at
invariant-loop-at l = onto l.columns.items (columns_in (drop l.at l.row)) ≡ columns_in l.row
