-- The stock of a part: its items that aren't gone, by number.
use Rattle.std.specs.Prelude.{ℕ, Bool, ◌&&◌, ◌==◌, not, List, [], ◌∷◌, map, filter, decimal, Option, option_map}
use Rattle.std.specs.FinMap as table
use Rattle.part_core.specs.Catalogue.{part_in}
use Rattle.word_core.specs.Status.{status_name}
use Rattle.forest.specs.declared.item.Item.{Item}
use Rattle.yard_core.specs.Stock.{is_gone}
use Rattle.desk_core.specs.Machine.{State}
use Rattle.yard_core.specs.EntryLines.{place_text}
use Rattle.report_core.specs.Fields.{text_or_empty}
use Rattle.report_core.specs.Lines.{Lines}

-- whether an item is of the part, and not gone
abbrev pub is_stock_of : ℕ → Item → Bool
is_stock_of part item = (item.part == part) && not (is_gone item.place)

abbrev pub item_line : Item → List (List ℕ)
item_line item =
    decimal item.number
    ∷ decimal item.quantity
    ∷ status_name item.lot.status
    ∷ place_text item.place
    ∷ text_or_empty item.lot.batch
    ∷ text_or_empty item.lot.serial
    ∷ []

-- none where there is no such part
abbrev pub stock_lines : ℕ → State → Option Lines
stock_lines number s =
    option_map (λ _. map item_line (filter (is_stock_of number) (table.values s.stock.items))) (part_in number s.parts)
