use Rattle.std.proofs.Common.{◌≡◌, ◌++◌, drop, map}
use Rattle.std.specs.String.{string_bytes}
use Rattle.report_core.specs.Columns.{in_columns}
use Rattle.report_core.proofs.columns.push_fields.Given as goal

-- the text so far and that of what is left is all text
abbrev pub invariant-loop-column : goal.invariant-loop-column
invariant-loop-column l =
    string_bytes l.text ++ in_columns (drop l.column l.widths) (map string_bytes (drop l.column l.fields))
    ≡ string_bytes l.initial.text ++ in_columns l.widths (map string_bytes l.fields)
