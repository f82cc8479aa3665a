-- The history of an item: the entries on it, in order.
use Rattle.std.specs.Prelude.{ℕ, [], ◌∷◌, map, filter, Option, option_map}
use Rattle.std.specs.FinMap as table
use Rattle.yard_core.specs.EntryLines.{entry_line}
use Rattle.yard_core.specs.Stock.{is_entry_on}
use Rattle.desk_core.specs.Machine.{State}
use Rattle.report_core.specs.Lines.{Lines}

-- the entries on the item, each as a line
abbrev pub entries_on : ℕ → State → Lines
entries_on number s = map entry_line (filter (is_entry_on number) (table.values s.stock.history))

-- none where there is no such item; one that is gone is still there
abbrev pub history_lines : ℕ → State → Option Lines
history_lines number s = option_map (λ _. entries_on number s) (table.get s.stock.items (number ∷ []))
