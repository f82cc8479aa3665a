use Rattle.std.proofs.Common.{◌≡◌, drop, map}
use Rattle.csv.specs.Records.{fields_of}
use Rattle.desk_wire.specs.Imports.{names_of, places_of}
use Rattle.desk_wire.proofs.ColumnFacts.{after}
use Rattle.desk_wire.proofs.columns.columns_of.Given as goal

abbrev pub invariant-loop-name : goal.invariant-loop-name
invariant-loop-name l = record {
  names : map (λ n. n.now) l.name-items ≡ names_of l.fn.kind;
  so_far :
      places_of (names_of l.fn.kind) (fields_of l.first)
      ≡ after l.places.items (places_of (drop l.name-index (names_of l.fn.kind)) (fields_of l.first));
}
