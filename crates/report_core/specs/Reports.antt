-- The lines of each report.
use Rattle.std.specs.Prelude.{ℕ, Option, Result}
use Rattle.word_core.specs.declared.refusal.CoreFault.{CoreFault}
use Rattle.desk_core.specs.Machine.{State}
use Rattle.report_core.specs.declared.name.ReportName.{ReportName}
use Rattle.report_core.specs.declared.name.ReportName.TheVariants.{Ledger, Stock, WhereUsed, History, Content, Shortage}
use Rattle.report_core.specs.Content.{content_lines}
use Rattle.report_core.specs.History.{history_lines}
use Rattle.report_core.specs.Ledger.{ledger_lines}
use Rattle.report_core.specs.Lines.{Gives, Lines}
use Rattle.report_core.specs.Shortage.{shortage_lines}
use Rattle.report_core.specs.Stock.{stock_lines}
use Rattle.report_core.specs.WhereUsed.{where_used_lines}

-- the lines of the report of that name; none where there is no such row
abbrev pub report_lines : ReportName → ℕ → State → Option Lines
report_lines Ledger number s = ledger_lines number s
report_lines Stock number s = stock_lines number s
report_lines WhereUsed number s = where_used_lines number s
report_lines History number s = history_lines number s
report_lines Content number s = content_lines number s
report_lines Shortage number s = shortage_lines number s

-- what is told is the report's lines; or NoSuch where there is no such row; or it ran out of memory
abbrev pub Reports : State → ReportName → ℕ → Result Lines CoreFault → Type 0
Reports s name number result = Gives (report_lines name number s) result
