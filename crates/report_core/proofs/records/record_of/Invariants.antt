use Rattle.std.proofs.Common.{◌≡◌, ◌++◌, [], drop, map}
use Rattle.std.specs.String.{string_bytes}
use Rattle.csv.specs.Records.{fields_of, partial_of}
use Rattle.report_core.proofs.records.record_of.Given as goal

-- the fields so far and those that are left are all fields
abbrev pub invariant-loop-field : goal.invariant-loop-field
invariant-loop-field l = record {
  told : fields_of l.record ++ map string_bytes (drop l.field-index l.fields) ≡ map string_bytes l.fields;
  partial : partial_of l.record ≡ [];
}
