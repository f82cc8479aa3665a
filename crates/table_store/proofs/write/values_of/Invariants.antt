use Rattle.std.proofs.Common.{◌≡◌, ◌++◌, map, take, drop}
use Rattle.std.specs.Prelude.{All}
use Rattle.sqlite.specs.Values.{bound}
use Rattle.table_store.specs.Stored.{value_of}
use Rattle.table_store.proofs.Columns.{IsKept}
use Rattle.table_store.proofs.write.values_of.Given as goal

-- the values so far, and those of the columns that are left; the columns so far are read again
abbrev pub invariant-loop-column : goal.invariant-loop-column
invariant-loop-column l = record {
  values : bound l.values.items ++ map value_of (drop l.column-index l.columns) ≡ map value_of l.columns;
  read : All IsKept (take l.column-index l.columns);
}
