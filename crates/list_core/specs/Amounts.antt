-- How much of a part there is.
use Rattle.std.specs.Prelude.{ℕ, ◌-◌, ◌&&◌, if◌then◌else◌, List, filter, sum_by}
use Rattle.std.specs.FinMap as table
use Rattle.word_core.specs.Status.{is_allocatable}
use Rattle.forest.specs.declared.item.Item.{Item}
use Rattle.forest.specs.Forest.{is_at}
use Rattle.yard_core.specs.Stock.{root_place}
use Rattle.alloc_core.specs.Allocations.{allocated}
use Rattle.desk_core.specs.Machine.{State}
use Rattle.report_core.specs.Stock.{is_stock_of}

-- the part's items that aren't gone
abbrev pub items_of : ℕ → State → List Item
items_of part s = filter (is_stock_of part) (table.values s.stock.items)

-- what is present of an item: all of it, where it lies at a location, or in something that does, at any depth
abbrev pub present_of : State → Item → ℕ
present_of s x = if is_at (root_place s.stock.items x.number) then x.quantity else 0

-- what is allocated of an item
abbrev pub allocated_of : State → Item → ℕ
allocated_of s x = allocated x.number s.allocations

-- what is free of an item: of one that lies at a location itself, in a status in which stock may be allocated, what isn't
-- allocated; of any other nothing
abbrev pub free_of : State → Item → ℕ
free_of s x = if is_at x.place && is_allocatable x.lot.status then x.quantity - allocated_of s x else 0

-- the same of all items of a part
abbrev pub free_amount : ℕ → State → ℕ
free_amount part s = sum_by (free_of s) (items_of part s)
