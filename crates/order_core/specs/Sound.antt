-- What always holds of orders, beside the catalogue, the stock and the allocations.
use Rattle.std.specs.Prelude.{◌≡◌, ℕ, ◌+◌, ◌≤◌, Bool, true}
use Rattle.part_core.specs.Catalogue.{Parts}
use Rattle.word_core.specs.Quantity.{largest}
use Rattle.sheet_core.specs.Rows.{EachRow, IsThere, StandRight}
use Rattle.alloc_core.specs.Allocations.{allocated_for_sale_line}
use Rattle.alloc_core.specs.Sound.{AreSoundAllocations}
use Rattle.alloc_core.specs.declared.purpose.Purpose.{Purpose}
use Rattle.alloc_core.specs.declared.purpose.Purpose.TheVariants.{Sale, Build}
use Rattle.stock_core.specs.ItemTests.{part_at}
use Rattle.stock_core.specs.Sound.{IsSoundStock}
use Rattle.word_core.specs.Side.{is_sale}
use Rattle.order_core.specs.Orders.{OrderBooks, is_in_progress, line_at, order_at, owners_beside}
use Rattle.order_core.specs.declared.line.OrderLine.{OrderLine}

-- the order and the part of a line are there, and it is of 1 to the largest quantity; what is done of it, and what is
-- allocated for it besides, are not more than that
pub record IsSoundLine (parts : Parts) (b : OrderBooks) (l : OrderLine) : Type 0 where
  pub order : IsThere b.orders l.order
  pub part : IsThere parts.parts l.part
  pub some : 1 ≤ l.quantity
  pub fits : l.quantity ≤ largest
  pub needed : l.done + allocated_for_sale_line l.number b.allocations ≤ l.quantity

-- an allocation is of a sale in progress, for a line of it, and of an item of the part that the line names
pub record IsSoundSale (b : OrderBooks) (item order line : ℕ) : Type 0 where
  pub sale : is_sale (order_at order b).side ≡ true
  pub in_progress : is_in_progress (order_at order b).state ≡ true
  pub there : IsThere b.lines line
  pub of_order : (line_at line b).order ≡ order
  pub fits : part_at item b.books.stock ≡ (line_at line b).part

-- what is asked of an allocation for a sale; those for builds are the matter of builds
abbrev pub IsSoundPurpose : OrderBooks → ℕ → Purpose → Type 0
IsSoundPurpose b item (Sale order line) = IsSoundSale b item order line
IsSoundPurpose b item (Build build line output) = Unit {0}

pub record AreSoundOrders (parts : Parts) (b : OrderBooks) : Type 0 where
  -- each under its own number, which was drawn
  pub orders : StandRight (λ o. o.number) b.books.counter.next b.orders
  pub lines : StandRight (λ l. l.number) b.books.counter.next b.lines
  pub each_line : EachRow (IsSoundLine parts b) b.lines
  pub each_sale : EachRow (λ a. IsSoundPurpose b a.item a.purpose) b.allocations

-- what holds of all that the commands on orders change, beside the catalogue and the numbers of builds
pub record AreSoundBooks (is_build : ℕ → Bool) (parts : Parts) (b : OrderBooks) : Type 0 where
  pub stock : IsSoundStock (owners_beside is_build b.orders) parts b.books
  pub allocations : AreSoundAllocations b.allocations b.books
  pub orders : AreSoundOrders parts b
