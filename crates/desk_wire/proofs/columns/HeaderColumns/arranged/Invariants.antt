use Rattle.std.proofs.Common.{◌≡◌, map, take}
use Rattle.csv.specs.Records.{fields_of}
use Rattle.desk_wire.specs.Imports.{field_at_place}
use Rattle.desk_wire.proofs.columns.HeaderColumns.arranged.Given as goal

abbrev pub invariant-loop-place : goal.invariant-loop-place
invariant-loop-place l =
    fields_of l.row ≡ map (λ place. field_at_place place (fields_of l.fields)) (take l.place-index l.self.places.items)
