use Rattle.std.proofs.Common.{◌≡◌, ◌++◌, drop, map}
use Rattle.std.specs.String.{string_bytes}
use Rattle.report_core.specs.Lines.{fields_of}
use Rattle.report_core.specs.Escaped.{escaped}
use Rattle.report_core.proofs.escape.escaped_fields.Given as goal

-- the fields so far and those of what is left are all fields
abbrev pub invariant-loop-field : goal.invariant-loop-field
invariant-loop-field l =
    fields_of l.line ++ map escaped (map string_bytes (drop l.field-index l.fields))
    ≡ map escaped (map string_bytes l.fields)
