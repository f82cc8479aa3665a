use Rattle.std.proofs.Common.{◌≡◌, ◌++◌, drop, map}
use Rattle.std.specs.String.{string_bytes}
use Rattle.serde_json.specs.Data.{string}
use Rattle.serde_json.specs.View.{view}
use Rattle.report_core.proofs.lines.line_value.Given as goal

-- the values so far and those of what is left are all values
abbrev pub invariant-loop-field : goal.invariant-loop-field
invariant-loop-field l =
    map view l.values.items ++ map string (map string_bytes (drop l.field-index l.fields))
    ≡ map string (map string_bytes l.fields)
