use Rattle.std.proofs.Common.{◌≡◌, ◌++◌, drop}
use Rattle.std.specs.String.{string_bytes}
use Rattle.report_core.specs.Lines.{lines_of, report_text}
use Rattle.report_core.proofs.lines.push_lines.Given as goal

-- the text so far and that of what is left is all text
abbrev pub invariant-loop-line : goal.invariant-loop-line
invariant-loop-line l =
    string_bytes l.text ++ report_text (lines_of (drop l.line-index l.lines))
    ≡ string_bytes l.initial.text ++ report_text (lines_of l.lines)
