use Rattle.std.proofs.Common.{◌≡◌, ℕ, Bool, drop}
use Rattle.std.specs.List.{list_any}
use Rattle.csv.specs.Reading.{records, strip_bom}
use Rattle.desk_wire.specs.Imports.{first_width, is_width, separators}
use Rattle.desk_wire.specs.Records.{config_by}
use Rattle.desk_wire.proofs.columns.has_other_separator.Given as goal

abbrev pub invariant-loop-other : goal.invariant-loop-other
invariant-loop-other l =
    let test : ℕ → Bool = λ other. is_width (first_width (records (config_by other) (strip_bom l.bytes))) l.width in
    list_any test separators ≡ list_any test (drop l.other-index separators)
