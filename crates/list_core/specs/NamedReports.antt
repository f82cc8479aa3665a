-- Reports in a second form, for a spreadsheet: with a header, and with a name or a way beside each number, or in its place.
use Rattle.std.specs.Prelude.{ℕ, List, [], ◌∷◌, map, filter, drop, decimal, codes, Option, Some, None, option_and_then, option_map}
use Rattle.part_core.specs.Catalogue.{part_in}
use Rattle.word_core.specs.Status.{status_name}
use Rattle.forest.specs.declared.item.Item.{Item}
use Rattle.desk_core.specs.Machine.{State}
use Rattle.report_core.specs.Content.{content_lines}
use Rattle.report_core.specs.Fields.{name_of, text_or_empty}
use Rattle.report_core.specs.Ledger.{ledger_lines}
use Rattle.report_core.specs.Lines.{Lines}
use Rattle.report_core.specs.Shortage.{shortage_lines}
use Rattle.report_core.specs.WhereUsed.{where_used_lines}
use Rattle.report_core.specs.declared.name.ReportName.{ReportName}
use Rattle.report_core.specs.declared.name.ReportName.TheVariants.{Ledger, Stock, WhereUsed, History, Content, Shortage}
use Rattle.list_core.specs.Amounts.{items_of}
use Rattle.list_core.specs.HistoryList.{Span, history_list, place_words}
use Rattle.list_core.specs.Trace.{item_in}

abbrev pub ledger_header : List (List ℕ)
ledger_header = codes "part" ∷ codes "what" ∷ codes "amount" ∷ []

abbrev pub stock_header : List (List ℕ)
stock_header =
    codes "part" ∷ codes "item" ∷ codes "quantity" ∷ codes "status" ∷ codes "where" ∷ codes "batch" ∷ codes "serial" ∷ []

abbrev pub used_header : List (List ℕ)
used_header = codes "number" ∷ codes "part" ∷ []

abbrev pub content_header : List (List ℕ)
content_header = codes "depth" ∷ codes "item" ∷ codes "part" ∷ codes "quantity" ∷ codes "serial" ∷ []

abbrev pub shortage_header : List (List ℕ)
shortage_header =
    codes "line" ∷ codes "component" ∷ codes "required" ∷ codes "allocated" ∷ codes "missing" ∷ []

-- a ledger with the part's name before each amount; its own first line, which says the part, is left out
abbrev pub named_ledger : List ℕ → Lines → Lines
named_ledger name lines = ledger_header ∷ map (λ line. name ∷ line) (drop 1 lines)

-- an item of a part's stock, and where it is
abbrev pub named_item : State → Item → List (List ℕ)
named_item s x =
    name_of (part_in x.part s.parts)
    ∷ decimal x.number
    ∷ decimal x.quantity
    ∷ status_name x.lot.status
    ∷ place_words s x.place
    ∷ text_or_empty x.lot.batch
    ∷ text_or_empty x.lot.serial
    ∷ []

abbrev pub named_stock : ℕ → State → Lines
named_stock n s = stock_header ∷ map (named_item s) (items_of n s)

abbrev pub all_days : Span
all_days = record { first = None; last = None }

-- The report of that name. A history is told as the list of what became of the item. None where there is no such row.
abbrev pub named_report : ReportName → ℕ → State → Option Lines
named_report Ledger n s = option_map (named_ledger (name_of (part_in n s.parts))) (ledger_lines n s)
named_report Stock n s = option_map (λ _. named_stock n s) (part_in n s.parts)
named_report WhereUsed n s = option_map (λ lines. used_header ∷ lines) (where_used_lines n s)
named_report History n s = option_and_then (λ _. history_list (Some n) all_days s) (item_in n s)
named_report Content n s = option_map (λ lines. content_header ∷ lines) (content_lines n s)
named_report Shortage n s = option_map (λ lines. shortage_header ∷ lines) (shortage_lines n s)
