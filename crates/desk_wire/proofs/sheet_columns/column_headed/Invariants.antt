use Rattle.std.proofs.Common.{◌≡◌, ◌++◌, drop}
use Rattle.csv.specs.Records.{fields_of}
use Rattle.desk_wire.specs.Imports.{places_from}
use Rattle.desk_wire.specs.Layouts.{place_list}
use Rattle.desk_wire.proofs.sheet_columns.column_headed.Given as goal

abbrev pub invariant-loop-index : goal.invariant-loop-index
invariant-loop-index l =
    places_from 0 l.name (fields_of l.header)
    ≡ place_list l.column ++ places_from l.index l.name (drop l.index (fields_of l.header))
