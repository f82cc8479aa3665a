-- The list of all that there is of an item: where it is, what lies in it, what made it, and its history.
use Rattle.std.specs.Prelude.{ℕ, List, [], ◌∷◌, ◌++◌, map, filter, decimal, codes, Option, Some, None, option_map}
use Rattle.std.specs.FinMap as table
use Rattle.part_core.specs.Catalogue.{part_in}
use Rattle.word_core.specs.Day.{day_text}
use Rattle.word_core.specs.Status.{status_name}
use Rattle.forest.specs.declared.entry.Entry.{Entry}
use Rattle.forest.specs.declared.item.Item.{Item}
use Rattle.forest.specs.declared.place.Place.{Place}
use Rattle.forest.specs.declared.place.Place.TheVariants.{At}
use Rattle.yard_core.specs.Contents.{content_of}
use Rattle.yard_core.specs.EntryLines.{kind_name, place_text}
use Rattle.yard_core.specs.Stock.{is_entry_on}
use Rattle.order_core.specs.declared.line.OrderLine.{OrderLine}
use Rattle.order_core.specs.declared.order.Order.{Order}
use Rattle.desk_core.specs.Machine.{State}
use Rattle.report_core.specs.Fields.{name_of, text_or_empty}
use Rattle.report_core.specs.Lines.{Lines}
use Rattle.list_core.specs.Origins.{day_or_empty, key_day, origin_at, origins_in}
use Rattle.list_core.specs.declared.origins.Origin.{Origin}
use Rattle.list_core.specs.declared.origins.Source.{Source}
use Rattle.list_core.specs.declared.origins.Source.TheVariants.{Begun, Received, CutOff, Made}
use Rattle.list_core.specs.PlaceList.{indented}
use Rattle.list_core.specs.Ways.{way_text}

abbrev pub item_header : List (List ℕ)
item_header =
    codes "kind" ∷ codes "number" ∷ codes "part" ∷ codes "name" ∷ codes "quantity" ∷ codes "batch" ∷ codes "serial"
    ∷ codes "status" ∷ codes "where" ∷ codes "day" ∷ codes "key" ∷ []

-- where something is: of a location its way
abbrev pub where_text : State → Place → List ℕ
where_text s (At location) = way_text (Some location) s.stock.locations
where_text s place = place_text place

-- an item under that heading, with its part by number and by name, the name after two spaces for each item that it lies
-- in here
abbrev pub item_fields : List ℕ → State → Item × ℕ → List (List ℕ)
item_fields heading s node =
    heading
    ∷ decimal node.0.number
    ∷ decimal node.0.part
    ∷ indented node.1 (name_of (part_in node.0.part s.parts))
    ∷ decimal node.0.quantity
    ∷ text_or_empty node.0.lot.batch
    ∷ text_or_empty node.0.lot.serial
    ∷ status_name node.0.lot.status
    ∷ where_text s node.0.place
    ∷ []
    ∷ []
    ∷ []

-- an entry of its history: what was done, of how many, and where
abbrev pub history_fields : State → Entry → List (List ℕ)
history_fields s entry =
    codes "history"
    ∷ decimal entry.number
    ∷ []
    ∷ kind_name entry.note.kind
    ∷ decimal entry.note.quantity
    ∷ []
    ∷ []
    ∷ []
    ∷ where_text s entry.note.place
    ∷ day_text entry.day
    ∷ []
    ∷ []

-- the number of what a source names
abbrev pub source_text : Source → List ℕ
source_text (Begun build) = decimal build
source_text (Received line) = decimal line
source_text (CutOff item) = decimal item
source_text Made = []

abbrev pub order_text : Option Order → List ℕ
order_text None = []
order_text (Some order) = codes "order " ++ (decimal order.number ++ (codes " from " ++ order.partner))

abbrev pub delivered_text : State → Option OrderLine → List ℕ
delivered_text s None = []
delivered_text s (Some line) = order_text (table.get s.orders (line.order ∷ []))

-- the order of a line, and who delivered: empty where one of them isn't there
abbrev pub delivery_text : ℕ → State → List ℕ
delivery_text line s = delivered_text s (table.get s.order_lines (line ∷ []))

-- what an item came from, as far as it is a delivery
abbrev pub from_text : State → Source → List ℕ
from_text s (Received line) = delivery_text line s
from_text s _ = []

-- what made it: the command, and the number that this names
abbrev pub made_fields : State → Origin → List (List ℕ)
made_fields s origin =
    codes "made"
    ∷ source_text origin.source
    ∷ []
    ∷ origin.verb
    ∷ []
    ∷ []
    ∷ []
    ∷ []
    ∷ from_text s origin.source
    ∷ day_or_empty (key_day origin.key)
    ∷ origin.key
    ∷ []

-- a row of that, where it is kept
abbrev pub made_rows : State → Option Origin → Lines
made_rows s None = []
made_rows s (Some origin) = made_fields s origin ∷ []

-- the item, what lies in it, what made it, and the entries on it, in order; none where there is no such item
abbrev pub item_list : ℕ → State → Option Lines
item_list number s = option_map (λ item.
    item_header
    ∷ item_fields (codes "item") s (item, 1)
    ∷ (map (item_fields (codes "inside") s) (content_of number s.stock)
    ++ (made_rows s (origin_at number (origins_in s))
    ++ map (history_fields s) (filter (is_entry_on number) (table.values s.stock.history)))))
    (table.get s.stock.items (number ∷ []))
