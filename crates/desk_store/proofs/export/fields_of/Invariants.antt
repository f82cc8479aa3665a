use Rattle.std.proofs.Common.{◌≡◌, ◌++◌, [], map, drop}
use Rattle.csv.specs.Records.{fields_of, partial_of}
use Rattle.desk_store.specs.Exports.{field_of}
use Rattle.desk_store.proofs.export.fields_of.Given as goal

-- the fields so far, and those of the columns that are left
abbrev pub invariant-loop-column : goal.invariant-loop-column
invariant-loop-column l = record {
  told : fields_of l.fields ++ map field_of (drop l.column-index l.columns) ≡ map field_of l.columns;
  partial : partial_of l.fields ≡ [];
}
