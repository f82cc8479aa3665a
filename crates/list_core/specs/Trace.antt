-- The way of items forward and back: from an item to what it lies in, what a build made with it and what was cut off it;
-- and back to what lies in it, what its build used, the delivery that it came with and what it was cut off.
use Rattle.std.specs.Prelude.{ℕ, zero, suc, ◌+◌, ◌-◌, ◌^◌, ◌==◌, ◌&&◌, not, nat_lt, Bool, true, false, is_some}
use Rattle.std.specs.Prelude.{if◌then◌else◌, List, [], ◌∷◌, ◌++◌, filter, flat_map, map, sum_by, Option, Some, None}
use Rattle.std.specs.FinMap as table
use Rattle.std.specs.List.{list_any}
use Rattle.std.specs.Str.{bytes_eq}
use Rattle.forest.specs.declared.item.Item.{Item}
use Rattle.forest.specs.declared.place.Place.{Place}
use Rattle.forest.specs.declared.place.Place.TheVariants as place
use Rattle.forest.specs.Rows.{is_output_of}
use Rattle.yard_core.specs.Outputs.{quantity_out}
use Rattle.yard_core.specs.Stock.{children_of}
use Rattle.order_core.specs.declared.line.OrderLine.{OrderLine}
use Rattle.build_core.specs.declared.build.Build.{Build}
use Rattle.desk_core.specs.Machine.{State, is_build, is_order}
use Rattle.list_core.specs.Lives.{built_of}
use Rattle.list_core.specs.Origins.{begun_for, cut_off_it, origin_at, origins_in}
use Rattle.list_core.specs.Used.{used_by}
use Rattle.list_core.specs.declared.origins.Origin.{Origin}
use Rattle.list_core.specs.declared.origins.Source.{Source}
use Rattle.list_core.specs.declared.origins.Source.TheVariants as source
use Rattle.list_core.specs.declared.walk.Child.{Child}
use Rattle.list_core.specs.declared.walk.Direction.{Direction}
use Rattle.list_core.specs.declared.walk.Direction.TheVariants.{Forward, Back}
use Rattle.list_core.specs.declared.walk.How.{How}
use Rattle.list_core.specs.declared.walk.How.TheVariants as how
use Rattle.list_core.specs.declared.walk.Node.{Node}
use Rattle.list_core.specs.declared.walk.Node.TheVariants as node
use Rattle.list_core.specs.declared.walk.Step.{Step}
use Rattle.list_core.specs.declared.walk.Visit.{Visit}

-- ---- what there is

abbrev pub item_in : ℕ → State → Option Item
item_in n s = table.get s.stock.items (n ∷ [])

abbrev pub is_item : State → ℕ → Bool
is_item s n = is_some (item_in n s)

abbrev pub line_at : ℕ → State → Option OrderLine
line_at n s = table.get s.order_lines (n ∷ [])

abbrev pub build_at : ℕ → State → Option Build
build_at n s = table.get s.builds (n ∷ [])

-- whether a line is there, and its order
abbrev pub has_order : State → Option OrderLine → Bool
has_order s None = false
has_order s (Some line) = is_order s line.order

-- the delivery of the line of that number
abbrev pub has_delivery : State → ℕ → Bool
has_delivery s line = has_order s (line_at line s)

-- ---- children: a row that isn't there is none

abbrev pub item_child : State → How → ℕ → List Child
item_child s h n = if is_item s n then record { node = node.Item n; how = h } ∷ [] else []

abbrev pub build_child : State → How → ℕ → List Child
build_child s h n = if is_build s n then record { node = node.Build n; how = h } ∷ [] else []

abbrev pub item_children : State → How → List ℕ → List Child
item_children s h numbers = flat_map (item_child s h) numbers

-- ---- forward

-- what the item lies in, or the build that used it
abbrev pub after_place : State → Place → List Child
after_place s (place.In m) = item_child s how.Holds m
after_place s (place.Used b) = build_child s how.Used b
after_place s _ = []

-- the numbers of the rows that were cut off the item
abbrev pub pieces_of : ℕ → State → List ℕ
pieces_of n s = map (λ o. o.number) (cut_off_it n (origins_in s))

abbrev pub after_row : State → ℕ → Option Item → List Child
after_row s n None = []
after_row s n (Some x) = after_place s x.place ++ item_children s how.CutOff (pieces_of n s)

abbrev pub after_item : State → ℕ → List Child
after_item s n = after_row s n (item_in n s)

-- the numbers of the rows that were begun for the build
abbrev pub outputs_begun : ℕ → State → List ℕ
outputs_begun b s = map (λ o. o.number) (begun_for b (origins_in s))

-- how many of the build's outputs an item is or was: what is at its output, else what was built of it
abbrev pub amount_of_row : State → ℕ → ℕ → Option Item → ℕ
amount_of_row s b n None = 0
amount_of_row s b n (Some x) = if is_output_of b x.place then x.quantity else built_of n s

abbrev pub output_amount : State → ℕ → ℕ → ℕ
output_amount s b n = amount_of_row s b n (item_in n s)

abbrev pub known_outputs : State → ℕ → ℕ
known_outputs s b = sum_by (output_amount s b) (outputs_begun b s)

abbrev pub done_of : Option Build → ℕ
done_of None = 0
done_of (Some build) = build.done

-- how many of the build's outputs no kept request began: of all that are done or at its output
abbrev pub unknown_outputs : State → ℕ → ℕ
unknown_outputs s b = done_of (build_at b s) + quantity_out b s.stock - known_outputs s b

abbrev pub unknown_child : State → ℕ → List Child
unknown_child s b =
    if nat_lt 0 (unknown_outputs s b) then record { node = node.Unknown b; how = how.Unknown } ∷ [] else []

abbrev pub after_build : State → ℕ → List Child
after_build s b = item_children s how.Begun (outputs_begun b s) ++ unknown_child s b

-- ---- back

abbrev pub delivery_child : State → ℕ → ℕ → List Child
delivery_child s line item =
    if has_delivery s line then record { node = node.Delivery line item; how = how.Delivered } ∷ [] else []

-- what the item was made by, by what its origin says
abbrev pub source_child : State → ℕ → Source → List Child
source_child s n (source.Begun b) = build_child s how.Made b
source_child s n (source.Received l) = delivery_child s l n
source_child s n (source.CutOff z) = item_child s how.Cut z
source_child s n source.Made = []

abbrev pub origin_child : State → ℕ → Option Origin → List Child
origin_child s n None = []
origin_child s n (Some o) = source_child s n o.source

abbrev pub before_item : State → ℕ → List Child
before_item s n =
    item_children s how.Inside (children_of n s.stock) ++ origin_child s n (origin_at n (origins_in s))

abbrev pub before_build : State → ℕ → List Child
before_build s b = item_children s how.UsedFor (used_by b s.stock)

-- ---- the children of a node

abbrev pub children : Direction → State → Node → List Child
children Forward s (node.Item n) = after_item s n
children Forward s (node.Build b) = after_build s b
children Back s (node.Item n) = before_item s n
children Back s (node.Build b) = before_build s b
children _ s (node.Unknown b) = []
children _ s (node.Delivery line item) = []

-- ---- a walk

abbrev pub is_item_node : ℕ → Node → Bool
is_item_node n (node.Item m) = m == n
is_item_node n _ = false

abbrev pub is_build_node : ℕ → Node → Bool
is_build_node n (node.Build m) = m == n
is_build_node n _ = false

-- whether the item or the build is among the steps so far; of what has no number of its own nothing is
abbrev pub is_shown : Node → List Step → Bool
is_shown (node.Item n) steps = list_any (λ step. is_item_node n step.node) steps
is_shown (node.Build n) steps = list_any (λ step. is_build_node n step.node) steps
is_shown (node.Unknown b) steps = false
is_shown (node.Delivery line item) steps = false

-- the step to a node that is to be visited: whether it was shown above
abbrev pub step_to : Visit → List Step → Step
step_to visit steps =
    record { node = visit.node; how = visit.how; depth = visit.depth; above = is_shown visit.node steps }

abbrev pub visit_at : ℕ → Child → Visit
visit_at depth child = record { node = child.node; how = child.how; depth = depth }

-- what is to be visited right after a step: the node's children, one deeper; none where it was shown above
abbrev pub visits_after : Direction → State → Step → List Visit
visits_after d s step = if step.above then [] else map (visit_at (step.depth + 1)) (children d s step.node)

-- the steps so far, with those of a walk through what is to be visited: depth first, what a node leads to before what
-- comes after the node. None where so many don't suffice.
unfoldable pub walk_from : ℕ → Direction → State → List Step → List Visit → Option (List Step)
walk_from zero d s steps [] = Some steps
walk_from zero d s steps (visit ∷ rest) = None
walk_from (suc n) d s steps [] = Some steps
walk_from (suc n) d s steps (visit ∷ rest) =
    walk_from n d s (steps ++ step_to visit steps ∷ []) (visits_after d s (step_to visit steps) ++ rest)

-- more steps than a walk can have
abbrev pub most_steps : ℕ
most_steps = 2 ^ 64 - 1

abbrev pub root_visit : ℕ → Visit
root_visit n = record { node = node.Item n; how = how.Root; depth = 0 }

-- the steps of the walk from these items
abbrev pub walk : Direction → State → List ℕ → Option (List Step)
walk d s roots = walk_from most_steps d s [] (map root_visit roots)

-- ---- where a list begins

-- whether there is a batch, and it is the word to the letter
abbrev pub is_batch : List ℕ → Option (List ℕ) → Bool
is_batch word None = false
is_batch word (Some text) = bytes_eq text word

-- the items of the batch, of whatever part, in order of number
abbrev pub batch_items : List ℕ → State → List ℕ
batch_items batch s = map (λ x. x.number) (filter (λ x. is_batch batch x.lot.batch) (table.values s.stock.items))

-- the item, where it is there
abbrev pub item_roots : ℕ → State → List ℕ
item_roots n s = if is_item s n then n ∷ [] else []
