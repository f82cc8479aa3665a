-- The items that builds used, found by the build.
use Rattle.std.specs.Prelude.{ℕ, ◌==◌, ◌++◌, Bool, false, List, [], ◌∷◌, filter, flat_map, map, pos}
use Rattle.std.specs.FinMap as table
use Rattle.std.specs.Hash as fed
use Rattle.sheet_core.specs.Filled.{filled}
use Rattle.sheet_core.specs.Indexed.{index_key_of}
use Rattle.sheet_core.specs.Sheet.{Table}
use Rattle.forest.specs.declared.item.Item.{Item}
use Rattle.forest.specs.declared.place.Place.{Place}
use Rattle.forest.specs.declared.place.Place.TheVariants.{Used}
use Rattle.yard_core.specs.Stock.{Stock}
use Rattle.list_core.specs.declared.used.UsedItem.{UsedItem}

-- whether a build used what is at the place
abbrev pub is_used_by : ℕ → Place → Bool
is_used_by n (Used build) = build == n
is_used_by n _ = false

-- the numbers of the items that the build used, in order
abbrev pub used_by : ℕ → Stock → List ℕ
used_by build s = map (λ x. x.number) (filter (λ x. is_used_by build x.place) (table.values s.items))

-- ---- the table of all items that builds used

abbrev pub used_at : ℕ → Place → List UsedItem
used_at n (Used build) = record { number = n; build = build } ∷ []
used_at n _ = []

-- what is filed of an item
abbrev pub used_row : Item → List UsedItem
used_row x = used_at x.number x.place

abbrev pub used_in : Stock → Table UsedItem
used_in s = filled (λ u. u.number ∷ []) (flat_map used_row (table.values s.items))

-- the numbers of those that the build used
abbrev pub numbers_used : ℕ → Table UsedItem → List ℕ
numbers_used build used = map (λ u. u.number) (filter (λ u. u.build == build) (table.values used))

-- the index key of the items that the build used
abbrev pub used_key : ℕ → ℕ
used_key n = index_key_of (fed.u64 n)

abbrev pub used_keys : UsedItem → List ℕ
used_keys u = used_key u.build ∷ []
