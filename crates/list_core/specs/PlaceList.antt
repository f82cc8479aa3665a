-- The list of what lies at a location and below it.
use Rattle.std.specs.Prelude.{ℕ, ◌-◌, Bool, false, List, [], ◌∷◌, ◌++◌, map, filter, flat_map, decimal, codes}
use Rattle.std.specs.Prelude.{if◌then◌else◌, is_some, Option, Some, None, option_map}
use Rattle.std.specs.FinMap as table
use Rattle.std.specs.List.{repeat}
use Rattle.part_core.specs.Catalogue.{part_in}
use Rattle.word_core.specs.Status.{status_name}
use Rattle.forest.specs.declared.item.Item.{Item}
use Rattle.forest.specs.declared.place.Place.{Place}
use Rattle.forest.specs.declared.place.Place.TheVariants.{At}
use Rattle.yard_core.specs.Contents.{Depths, content_of}
use Rattle.yard_core.specs.Stock.{Stock, has_location}
use Rattle.desk_core.specs.Machine.{State}
use Rattle.list_core.specs.Amounts.{free_of}
use Rattle.report_core.specs.Fields.{name_of, text_or_empty}
use Rattle.report_core.specs.Lines.{Lines}
use Rattle.list_core.specs.Ways.{is_under, way_text}

-- the location that an item lies at itself, if it does
abbrev pub location_of : Place → Option ℕ
location_of (At location) = Some location
location_of _ = None

-- whether an item lies itself at the location or at one below it
abbrev pub lies_under : ℕ → Stock → Item → Bool
lies_under top stock x = by_location (location_of x.place)
  where
    by_location : Option ℕ → Bool
    by_location None = false
    by_location (Some l) = is_under top l stock.locations

-- those items, by number
abbrev pub items_under : ℕ → Stock → List Item
items_under top stock = filter (lies_under top stock) (table.values stock.items)

abbrev pub place_header : List (List ℕ)
place_header =
    codes "way" ∷ codes "depth" ∷ codes "item" ∷ codes "part" ∷ codes "name" ∷ codes "quantity" ∷ codes "free"
    ∷ codes "batch" ∷ codes "serial" ∷ codes "status" ∷ []

-- two spaces for each item that it lies in, before the name of its part
abbrev pub indented : ℕ → List ℕ → List ℕ
indented depth name = repeat (depth - 1) (codes "  ") ++ name

-- an item with its depth: the way of its location, where it lies at one itself; what it is; what is free of it
abbrev pub placed_row : State → Item × ℕ → List (List ℕ)
placed_row s node =
    way_text (location_of node.0.place) s.stock.locations
    ∷ decimal node.1
    ∷ decimal node.0.number
    ∷ decimal node.0.part
    ∷ indented node.1 (name_of (part_in node.0.part s.parts))
    ∷ decimal node.0.quantity
    ∷ decimal (free_of s node.0)
    ∷ text_or_empty node.0.lot.batch
    ∷ text_or_empty node.0.lot.serial
    ∷ status_name node.0.lot.status
    ∷ []

-- what lies in the item of that number, each with its depth; nothing where there is no such item
abbrev pub content_at : ℕ → Stock → Depths
content_at number stock = if is_some (table.get stock.items (number ∷ [])) then content_of number stock else []

-- an item, then all that lies in it
abbrev pub placed_rows : State → Item → Lines
placed_rows s x = placed_row s (x, 1) ∷ map (placed_row s) (content_at x.number s.stock)

-- each item that lies at the location or below it, by number, each followed by what lies in it; none where there is no
-- such location
abbrev pub place_list : ℕ → State → Option Lines
place_list top s =
    option_map (λ _. place_header ∷ flat_map (placed_rows s) (items_under top s.stock)) (has_location top s.stock)
