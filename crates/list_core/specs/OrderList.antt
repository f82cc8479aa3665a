-- The list of orders, with their lines.
use Rattle.std.specs.Prelude.{ℕ, ◌-◌, ◌==◌, ◌||◌, not, Bool, if◌then◌else◌, List, [], ◌∷◌, ◌++◌, map}
use Rattle.std.specs.Prelude.{filter, flat_map, decimal, codes}
use Rattle.std.specs.FinMap as table
use Rattle.part_core.specs.Catalogue.{part_in}
use Rattle.word_core.specs.Side.{side_name}
use Rattle.alloc_core.specs.Allocations.{allocated_for_sale_line}
use Rattle.order_core.specs.Orders.{is_open}
use Rattle.order_core.specs.declared.line.OrderLine.{OrderLine}
use Rattle.order_core.specs.declared.order.Order.{Order}
use Rattle.order_core.specs.declared.state.OrderState.{OrderState}
use Rattle.order_core.specs.declared.state.OrderState.TheVariants.{Pending, InProgress, Complete, Cancelled}
use Rattle.desk_core.specs.Machine.{State}
use Rattle.list_core.specs.Past.{past_of}
use Rattle.list_core.specs.declared.past.Subject.TheVariants.{Orders}
use Rattle.report_core.specs.Fields.{name_of}
use Rattle.report_core.specs.Lines.{Lines}

abbrev pub order_state_name : OrderState → List ℕ
order_state_name Pending = codes "pending"
order_state_name InProgress = codes "in progress"
order_state_name Complete = codes "complete"
order_state_name Cancelled = codes "cancelled"

abbrev pub order_header : List (List ℕ)
order_header =
    codes "order" ∷ codes "side" ∷ codes "state" ∷ codes "partner" ∷ codes "line" ∷ codes "part" ∷ codes "name"
    ∷ codes "wanted" ∷ codes "done" ∷ codes "allocated" ∷ codes "outstanding" ∷ codes "key" ∷ codes "day"
    ∷ codes "last" ∷ []

-- what is said of the order itself
abbrev pub order_fields : Order → List (List ℕ)
order_fields order =
    decimal order.number ∷ side_name order.side ∷ order_state_name order.state ∷ order.partner ∷ []

-- what is still to come or to go of a line: what isn't done, while its order is open
abbrev pub outstanding : Order → OrderLine → ℕ
outstanding order line = if is_open order.state then line.quantity - line.done else 0

-- the key of the request that made the order, the day of that key, and the last day on which something of the order was
-- delivered or sent
abbrev pub order_past : State → Order → List (List ℕ)
order_past s order = past_of Orders s order.number

-- a line of the order: how many are wanted, how many were received or shipped, how many are allocated for it, and how
-- many are outstanding
abbrev pub order_line_row : State → Order → OrderLine → List (List ℕ)
order_line_row s order line =
    order_fields order
    ++ (decimal line.number
    ∷ decimal line.part
    ∷ name_of (part_in line.part s.parts)
    ∷ decimal line.quantity
    ∷ decimal line.done
    ∷ decimal (allocated_for_sale_line line.number s.allocations)
    ∷ decimal (outstanding order line)
    ∷ [])
    ++ order_past s order

-- an order that has no line
abbrev pub bare_order_row : State → Order → List (List ℕ)
bare_order_row s order = order_fields order ++ ([] ∷ [] ∷ [] ∷ [] ∷ [] ∷ [] ∷ [] ∷ []) ++ order_past s order

-- the rows of an order with these lines
abbrev pub order_rows_by : State → Order → List OrderLine → Lines
order_rows_by s order [] = bare_order_row s order ∷ []
order_rows_by s order (l ∷ ls) = map (order_line_row s order) (l ∷ ls)

-- a row for each line of an order, by number, or one for the order alone
abbrev pub order_rows : State → Order → Lines
order_rows s order = order_rows_by s order (filter (λ l. l.order == order.number) (table.values s.order_lines))

-- each order, by number; if only open ones are asked for, those
abbrev pub order_list : Bool → State → Lines
order_list only_open s =
    order_header
    ∷ flat_map (order_rows s) (filter (λ o. not only_open || is_open o.state) (table.values s.orders))
