use Rattle.std.proofs.Common.{◌≡◌, ◌++◌, drop}
use Rattle.report_core.specs.Lines.{lines_of}
use Rattle.report_core.specs.Records.{records_text}
use Rattle.report_core.proofs.records.records_text.Given as goal

-- the text so far and that of what is left is all text
abbrev pub invariant-loop-line : goal.invariant-loop-line
invariant-loop-line l =
    l.text.items ++ records_text (lines_of (drop l.line-index l.line-items)) ≡ records_text l.report
