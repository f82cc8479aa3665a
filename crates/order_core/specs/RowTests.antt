-- What is asked of each row, to tell whether orders are sound.
use Rattle.std.specs.Prelude.{ℕ, ◌+◌, ◌≤◌, ◌==◌, ◌&&◌, Bool, true, not, nat_le, is_some, [], ◌∷◌}
use Rattle.std.specs.FinMap as table
use Rattle.part_core.specs.Catalogue.{Parts, part_in}
use Rattle.word_core.specs.Quantity.{is_bad_quantity, largest}
use Rattle.sheet_core.specs.Rows.{IsThere}
use Rattle.sheet_core.specs.Sheet.{Table}
use Rattle.word_core.specs.Side.{is_sale}
use Rattle.alloc_core.specs.Allocations.{allocated_for_sale_line}
use Rattle.alloc_core.specs.declared.allocation.Allocation.{Allocation}
use Rattle.alloc_core.specs.declared.purpose.Purpose.{Purpose}
use Rattle.alloc_core.specs.declared.purpose.Purpose.TheVariants.{Sale, Build}
use Rattle.yard_core.specs.Stock.{Stock}
use Rattle.stock_core.specs.ItemTests.{part_at}
use Rattle.order_core.specs.Orders.{is_in_progress, line_in, order_in}
use Rattle.order_core.specs.declared.line.OrderLine.{OrderLine}
use Rattle.order_core.specs.declared.order.Order.{Order}

-- ---- lines

-- the order and the part of the line are there, and its quantity is in its range
abbrev pub has_rows : Parts → Table Order → OrderLine → Bool
has_rows parts orders l =
    is_some (table.get orders (l.order ∷ [])) && (is_some (part_in l.part parts) && not (is_bad_quantity l.quantity))

pub record HasRows (parts : Parts) (orders : Table Order) (l : OrderLine) : Type 0 where
  pub order : IsThere orders l.order
  pub part : IsThere parts.parts l.part
  pub some : 1 ≤ l.quantity
  pub fits : l.quantity ≤ largest

-- what is done of it, and what is allocated for it besides, are not more than it asks for
abbrev pub is_within : Table Allocation → OrderLine → Bool
is_within t l = nat_le (l.done + allocated_for_sale_line l.number t) l.quantity

-- ---- allocations

-- the line is there, the order is a sale in progress, the line is one of it, and the item is of the line's part
abbrev pub is_sound_sale : Table Order → Table OrderLine → Stock → ℕ → ℕ → ℕ → Bool
is_sound_sale orders lines s item order line =
    is_some (table.get lines (line ∷ []))
    && (is_sale (order_in order orders).side
    && (is_in_progress (order_in order orders).state
    && (((line_in line lines).order == order) && (part_at item s == (line_in line lines).part))))

-- what is asked of an allocation for a sale: those for builds are the matter of builds
abbrev pub is_sound_purpose : Table Order → Table OrderLine → Stock → ℕ → Purpose → Bool
is_sound_purpose orders lines s item (Sale order line) = is_sound_sale orders lines s item order line
is_sound_purpose orders lines s item (Build build line output) = true
