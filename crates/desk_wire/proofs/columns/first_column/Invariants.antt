use Rattle.std.proofs.Common.{◌≡◌, drop}
use Rattle.csv.specs.Records.{fields_of}
use Rattle.desk_wire.specs.Imports.{places_from}
use Rattle.desk_wire.proofs.columns.first_column.Given as goal

-- the places are those of the fields that are left
abbrev pub invariant-loop-index : goal.invariant-loop-index
invariant-loop-index l =
    places_from 0 l.name (fields_of l.header) ≡ places_from l.index l.name (drop l.index (fields_of l.header))
