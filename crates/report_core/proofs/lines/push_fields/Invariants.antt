use Rattle.std.proofs.Common.{◌≡◌, ◌++◌, drop, false, map}
use Rattle.std.specs.String.{string_bytes}
use Rattle.report_core.specs.Lines.{fields_text}
use Rattle.report_core.proofs.lines.push_fields.Given as goal

-- the text so far and that of what is left is all text
abbrev pub invariant-loop-field : goal.invariant-loop-field
invariant-loop-field l =
    string_bytes l.text ++ fields_text l.later (map string_bytes (drop l.field-index l.fields))
    ≡ string_bytes l.initial.text ++ fields_text false (map string_bytes l.fields)
