use Rattle.std.proofs.Common.{◌≡◌, ◌++◌, drop, map}
use Rattle.std.specs.String.{string_bytes}
use Rattle.report_core.specs.Lines.{fields_of}
use Rattle.report_core.specs.Cut.{cut_name}
use Rattle.report_core.proofs.cut.cut_line.Given as goal

-- the fields so far and those of what is left are all fields
abbrev pub invariant-loop-field : goal.invariant-loop-field
invariant-loop-field l =
    fields_of l.line ++ map cut_name (map string_bytes (drop l.field-index l.fields))
    ≡ map cut_name (map string_bytes l.fields)
