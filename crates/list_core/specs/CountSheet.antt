-- The sheet for a stocktake: what lies at a location and below it, with an empty field for what is counted.
use Rattle.std.specs.Prelude.{ℕ, ◌+◌, List, [], ◌∷◌, filter, decimal, codes, Option, Some, None, option_map}
use Rattle.std.specs.FinMap as table
use Rattle.part_core.specs.Catalogue.{part_in}
use Rattle.forest.specs.declared.item.Item.{Item}
use Rattle.forest.specs.Forest.{is_at}
use Rattle.yard_core.specs.Stock.{Stock, has_location}
use Rattle.desk_core.specs.Machine.{State}
use Rattle.report_core.specs.Fields.{name_of, text_or_empty}
use Rattle.report_core.specs.Lines.{Lines}
use Rattle.list_core.specs.PlaceList.{items_under, location_of}
use Rattle.list_core.specs.Ways.{way_text}

abbrev pub sheet_header : List (List ℕ)
sheet_header =
    codes "number" ∷ codes "item" ∷ codes "part" ∷ codes "way" ∷ codes "batch" ∷ codes "serial" ∷ codes "expected"
    ∷ codes "quantity" ∷ []

-- the row of that number: an item, where it lies, how many are expected, and nothing counted yet
abbrev pub sheet_row : State → ℕ → Item → List (List ℕ)
sheet_row s number x =
    decimal number
    ∷ decimal x.number
    ∷ name_of (part_in x.part s.parts)
    ∷ way_text (location_of x.place) s.stock.locations
    ∷ text_or_empty x.lot.batch
    ∷ text_or_empty x.lot.serial
    ∷ decimal x.quantity
    ∷ []
    ∷ []

-- rows of items, numbered from n
abbrev pub sheet_rows : State → ℕ → List Item → Lines
sheet_rows s n [] = []
sheet_rows s n (x ∷ xs) = sheet_row s n x ∷ sheet_rows s (n + 1) xs

-- the items that lie at a location themselves
abbrev pub loose_items : Stock → List Item
loose_items stock = filter (λ x. is_at x.place) (table.values stock.items)

-- each item that lies at the location or below it, or at any location where none is given, by number; what lies in an
-- item isn't counted by itself. None where there is no such location
abbrev pub count_sheet : Option ℕ → State → Option Lines
count_sheet None s = Some (sheet_header ∷ sheet_rows s 1 (loose_items s.stock))
count_sheet (Some top) s =
    option_map (λ _. sheet_header ∷ sheet_rows s 1 (items_under top s.stock)) (has_location top s.stock)
