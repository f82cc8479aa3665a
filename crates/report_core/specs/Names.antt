-- The reports' names.
use Rattle.std.specs.Prelude.{ℕ, List, codes, Option, Some, None, if◌then◌else◌}
use Rattle.std.specs.Str.{bytes_eq}
use Rattle.report_core.specs.declared.name.ReportName.{ReportName}
use Rattle.report_core.specs.declared.name.ReportName.TheVariants.{Ledger, Stock, WhereUsed, History, Content, Shortage}

abbrev pub report_named : List ℕ → Option ReportName
report_named name =
    if bytes_eq name (codes "ledger") then Some Ledger
    else if bytes_eq name (codes "stock") then Some Stock
    else if bytes_eq name (codes "where_used") then Some WhereUsed
    else if bytes_eq name (codes "history") then Some History
    else if bytes_eq name (codes "content") then Some Content
    else if bytes_eq name (codes "shortage") then Some Shortage
    else None
