-- The lists of the way of items forward and back: a line for each step of a walk.
use Rattle.std.specs.Prelude.{◌≡◌, ℕ, ◌&&◌, not, Bool, true, if◌then◌else◌, List, [], ◌∷◌, ◌++◌, map, decimal, codes}
use Rattle.std.specs.Prelude.{Option, Some, None, option_map, unwrap_or}
use Rattle.std.specs.FinMap as table
use Rattle.std.specs.List.{list_any}
use Rattle.part_core.specs.Catalogue.{part_in}
use Rattle.word_core.specs.Day.{CivilDay}
use Rattle.forest.specs.declared.item.Item.{Item}
use Rattle.forest.specs.declared.place.Place.{Place}
use Rattle.forest.specs.declared.place.Place.TheVariants.{In, Used, Sent}
use Rattle.order_core.specs.declared.line.OrderLine.{OrderLine}
use Rattle.order_core.specs.declared.order.Order.{Order}
use Rattle.build_core.specs.declared.build.Build.{Build}
use Rattle.desk_core.specs.Machine.{State, is_build}
use Rattle.report_core.specs.Fields.{name_of, text_or_empty}
use Rattle.report_core.specs.Lines.{Lines}
use Rattle.list_core.specs.BuildList.{build_state_name}
use Rattle.list_core.specs.ItemList.{where_text}
use Rattle.list_core.specs.Lives.{first_day}
use Rattle.list_core.specs.Origins.{day_or_empty, key_day_text, key_text, origin_at, origin_day, origins_in}
use Rattle.list_core.specs.Trace.{batch_items, build_at, is_batch, is_item, is_item_node, item_in, item_roots, line_at}
use Rattle.list_core.specs.Trace.{unknown_outputs, walk}
use Rattle.list_core.specs.declared.origins.Origin.{Origin}
use Rattle.list_core.specs.declared.walk.Direction.{Direction}
use Rattle.list_core.specs.declared.walk.How.{How}
use Rattle.list_core.specs.declared.walk.How.TheVariants as how
use Rattle.list_core.specs.declared.walk.Node.{Node}
use Rattle.list_core.specs.declared.walk.Node.TheVariants as node
use Rattle.list_core.specs.declared.walk.Step.{Step}

abbrev pub trace_header : List (List ℕ)
trace_header =
    codes "depth" ∷ codes "kind" ∷ codes "number" ∷ codes "part" ∷ codes "name" ∷ codes "quantity" ∷ codes "batch"
    ∷ codes "serial" ∷ codes "where" ∷ codes "how" ∷ codes "day" ∷ codes "key" ∷ []

abbrev pub how_text : How → List ℕ
how_text how.Root = []
how_text how.Holds = codes "holds it"
how_text how.Used = codes "used it"
how_text how.CutOff = codes "cut off it"
how_text how.Begun = codes "begun for it"
how_text how.Unknown = codes "not known"
how_text how.Inside = codes "inside it"
how_text how.Made = codes "made it"
how_text how.Delivered = codes "delivered it"
how_text how.Cut = codes "it was cut off this"
how_text how.UsedFor = codes "used for it"

-- ---- what is said of an item

abbrev pub sent_text : ℕ → Option Order → List ℕ
sent_text n None = codes "sent " ++ decimal n
sent_text n (Some order) = codes "sent " ++ (decimal n ++ (codes " to " ++ order.partner))

-- where something is: of what was sent for an order also to whom
abbrev pub trace_where : State → Place → List ℕ
trace_where s (Sent n) = sent_text n (table.get s.orders (n ∷ []))
trace_where s place = where_text s place

-- the first of two days that there is
abbrev pub day_or : Option CivilDay → Option CivilDay → Option CivilDay
day_or None other = other
day_or (Some day) other = Some day

-- the origin of the row of that number
abbrev pub origin_in : ℕ → State → Option Origin
origin_in n s = origin_at n (origins_in s)

-- the day of the first entry on it, else that of its origin's key
abbrev pub item_day : State → ℕ → Option CivilDay
item_day s n = day_or (first_day n s) (origin_day (origin_in n s))

abbrev pub item_row : State → Step → Item → List (List ℕ)
item_row s step x =
    decimal step.depth
    ∷ codes "item"
    ∷ decimal x.number
    ∷ decimal x.part
    ∷ name_of (part_in x.part s.parts)
    ∷ decimal x.quantity
    ∷ text_or_empty x.lot.batch
    ∷ text_or_empty x.lot.serial
    ∷ trace_where s x.place
    ∷ how_text step.how
    ∷ day_or_empty (item_day s x.number)
    ∷ key_text (origin_in x.number s)
    ∷ []

-- ---- what is said of a build, of a delivery, and of outputs that aren't known

abbrev pub build_row : State → Step → Build → List (List ℕ)
build_row s step build =
    decimal step.depth
    ∷ codes "build"
    ∷ decimal build.number
    ∷ decimal build.part
    ∷ name_of (part_in build.part s.parts)
    ∷ decimal build.quantity
    ∷ []
    ∷ []
    ∷ build_state_name build.state
    ∷ how_text step.how
    ∷ key_day_text (origin_in build.number s)
    ∷ key_text (origin_in build.number s)
    ∷ []

abbrev pub unknown_row : State → Step → Build → List (List ℕ)
unknown_row s step build =
    decimal step.depth
    ∷ codes "item"
    ∷ []
    ∷ decimal build.part
    ∷ name_of (part_in build.part s.parts)
    ∷ decimal (unknown_outputs s build.number)
    ∷ []
    ∷ []
    ∷ []
    ∷ how_text step.how
    ∷ []
    ∷ []
    ∷ []

-- the line of that number, and from whom it came
abbrev pub line_text : ℕ → Option Order → List ℕ
line_text n None = codes "line " ++ (decimal n ++ codes " from ")
line_text n (Some order) = codes "line " ++ (decimal n ++ (codes " from " ++ order.partner))

abbrev pub delivery_where : State → OrderLine → List ℕ
delivery_where s line = line_text line.number (table.get s.orders (line.order ∷ []))

abbrev pub delivery_row : State → Step → ℕ → OrderLine → List (List ℕ)
delivery_row s step item line =
    decimal step.depth
    ∷ codes "order"
    ∷ decimal line.order
    ∷ decimal line.part
    ∷ name_of (part_in line.part s.parts)
    ∷ decimal line.quantity
    ∷ []
    ∷ []
    ∷ delivery_where s line
    ∷ how_text step.how
    ∷ key_day_text (origin_in item s)
    ∷ key_text (origin_in item s)
    ∷ []

-- ---- the row of a step

-- what was shown above, by its kind and its number
abbrev pub above_row : Step → List ℕ → ℕ → List (List ℕ)
above_row step kind number =
    decimal step.depth ∷ kind ∷ decimal number ∷ [] ∷ [] ∷ [] ∷ [] ∷ [] ∷ [] ∷ codes "above" ∷ [] ∷ [] ∷ []

abbrev pub again_row : Step → Node → List (List ℕ)
again_row step (node.Item n) = above_row step (codes "item") n
again_row step (node.Build n) = above_row step (codes "build") n
again_row step (node.Unknown b) = []
again_row step (node.Delivery line item) = []

-- the fields of a row that there is
abbrev pub row_or_none : {X : Type 0} → (X → List (List ℕ)) → Option X → List (List ℕ)
row_or_none row None = []
row_or_none row (Some x) = row x

abbrev pub first_row : State → Step → Node → List (List ℕ)
first_row s step (node.Item n) = row_or_none (item_row s step) (item_in n s)
first_row s step (node.Build n) = row_or_none (build_row s step) (build_at n s)
first_row s step (node.Unknown b) = row_or_none (unknown_row s step) (build_at b s)
first_row s step (node.Delivery line item) = row_or_none (delivery_row s step item) (line_at line s)

abbrev pub step_row : State → Step → List (List ℕ)
step_row s step = if step.above then again_row step step.node else first_row s step step.node

-- ---- the lists

abbrev pub trace_lines : State → List Step → Lines
trace_lines s steps = trace_header ∷ map (step_row s) steps

-- a row for each step of the walk from these items; none where there is none of them
abbrev pub trace_list : Direction → State → List ℕ → Option Lines
trace_list d s [] = None
trace_list d s (n ∷ ns) = option_map (trace_lines s) (walk d s (n ∷ ns))

-- whether any item is of the batch
abbrev pub has_batch : List ℕ → State → Bool
has_batch batch s = list_any (λ x. is_batch batch x.lot.batch) (table.values s.stock.items)
