-- Tests of items, of which checks are made.
use Rattle.std.specs.Prelude.{ℕ, Bool, is_none, is_some, nat_lt, [], ◌∷◌}
use Rattle.std.specs.FinMap as table
use Rattle.forest.specs.Forest.{is_at}
use Rattle.yard_core.specs.Stock.{Stock, has_location, item_at, root_place}

abbrev pub is_no_item : ℕ → Stock → Bool
is_no_item n s = is_none (table.get s.items (n ∷ []))

abbrev pub is_no_location : ℕ → Stock → Bool
is_no_location n s = is_none (has_location n s)

-- the item lies at a location by itself
abbrev pub is_loose : ℕ → Stock → Bool
is_loose n s = is_at (item_at n s).place

-- what the item stands under, itself where it lies in no other, lies at a location
abbrev pub stands_loose : ℕ → Stock → Bool
stands_loose n s = is_at (root_place s.items n)

abbrev pub is_serialised : ℕ → Stock → Bool
is_serialised n s = is_some (item_at n s).lot.serial

abbrev pub part_at : ℕ → Stock → ℕ
part_at n s = (item_at n s).part

abbrev pub quantity_at : Stock → ℕ → ℕ
quantity_at s n = (item_at n s).quantity

-- the item has more than the amount
abbrev pub has_more : ℕ → ℕ → Stock → Bool
has_more n quantity s = nat_lt quantity (item_at n s).quantity

-- the item has less than the amount
abbrev pub has_less : ℕ → ℕ → Stock → Bool
has_less n quantity s = nat_lt (item_at n s).quantity quantity
