-- The names of the kinds of imports and of the reports.
use Rattle.std.specs.Prelude.{ℕ, List, codes, Option, Some, None, if◌then◌else◌}
use Rattle.std.specs.Str.{bytes_eq}
use Rattle.word_core.specs.declared.kinds.ImportKind.{ImportKind}
use Rattle.word_core.specs.declared.kinds.ImportKind.TheVariants.{Receipts, Counts}
use Rattle.word_core.specs.declared.kinds.ReportName.{ReportName}
use Rattle.word_core.specs.declared.kinds.ReportName.TheVariants.{Ledger, Stock, WhereUsed, History, Content, Shortage}

abbrev pub import_kind_name : ImportKind → List ℕ
import_kind_name Receipts = codes "receipts"
import_kind_name Counts = codes "counts"

-- the kind of that name
abbrev pub import_kind_named : List ℕ → Option ImportKind
import_kind_named name =
    if bytes_eq name (codes "receipts") then Some Receipts
    else if bytes_eq name (codes "counts") then Some Counts
    else None

-- the report of that name
abbrev pub report_named : List ℕ → Option ReportName
report_named name =
    if bytes_eq name (codes "ledger") then Some Ledger
    else if bytes_eq name (codes "stock") then Some Stock
    else if bytes_eq name (codes "where_used") then Some WhereUsed
    else if bytes_eq name (codes "history") then Some History
    else if bytes_eq name (codes "content") then Some Content
    else if bytes_eq name (codes "shortage") then Some Shortage
    else None
