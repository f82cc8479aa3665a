use Rattle.std.proofs.Common.{◌≡◌, drop}
use Rattle.csv.specs.Reading.{strip_bom}
use Rattle.desk_wire.specs.Imports.{separators}
use Rattle.desk_wire.specs.Levels.{layout_by}
use Rattle.desk_wire.proofs.levels.layout_of.Given as goal

abbrev pub invariant-loop-separator : goal.invariant-loop-separator
invariant-loop-separator l =
    layout_by (strip_bom l.bytes) separators ≡ layout_by (strip_bom l.bytes) (drop l.separator-index separators)
