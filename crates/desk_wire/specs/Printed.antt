-- What is printed of a report.
use Rattle.std.specs.Prelude.{ℕ, List, Bool, true, false, Option, Some, None}
use Rattle.word_core.specs.declared.refusal.Refusal.TheVariants.{NoSuch}
use Rattle.report_core.specs.Lines.{Lines, report_text}
use Rattle.desk_wire.specs.Writing.{refused_text}

-- the report's text, and that there is one; where there is none, that there is no such row
abbrev pub printed : Option Lines → List ℕ × Bool
printed (Some lines) = (report_text lines, true)
printed None = (refused_text NoSuch, false)
