-- What is asked of each row, to tell whether allocations are sound.
use Rattle.std.specs.Prelude.{Bool, not, ◌&&◌, nat_le}
use Rattle.word_core.specs.Quantity.{is_bad_quantity}
use Rattle.sheet_core.specs.Sheet.{Table}
use Rattle.forest.specs.Forest.{is_at}
use Rattle.forest.specs.declared.item.Item.{Item}
use Rattle.yard_core.specs.Stock.{Stock, item_at}
use Rattle.alloc_core.specs.Allocations.{allocated}
use Rattle.alloc_core.specs.declared.allocation.Allocation.{Allocation}

-- the quantity is in its range, and the item is there and loose
abbrev pub is_sound_row : Stock → Allocation → Bool
is_sound_row s a = not (is_bad_quantity a.quantity) && is_at (item_at a.item s).place

-- no more of the item is allocated than it has
abbrev pub is_covered : Table Allocation → Item → Bool
is_covered t x = nat_le (allocated x.number t) x.quantity
