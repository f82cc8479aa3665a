-- Items by their part and their serial.
use Rattle.std.specs.Prelude.{ℕ, Bool, ◌&&◌, ◌==◌, List, [], ◌∷◌, filter, if◌then◌else◌}
use Rattle.std.specs.FinMap as table
use Rattle.part_core.specs.declared.found.Found.{Found}
use Rattle.part_core.specs.declared.found.Found.TheVariants.{Nothing, One}
use Rattle.forest.specs.declared.item.Item.{Item}
use Rattle.yard_core.specs.Stock.{Stock, has_serial, is_gone}

-- the last of these items, and what was found before where there is none
abbrev pub newest : Found → List Item → Found
newest found [] = found
newest found (x ∷ xs) = newest (One x.number) xs

-- the last of these items that isn't gone, and what was found before where there is none
abbrev pub newest_left : Found → List Item → Found
newest_left found [] = found
newest_left found (x ∷ xs) = newest_left (if is_gone x.place then found else One x.number) xs

abbrev pub is_item_named : ℕ → List ℕ → Item → Bool
is_item_named part serial item = has_serial serial item && (item.part == part)

-- the newest of the items of the part that have the serial, of those that aren't gone where there is one
abbrev pub item_named : ℕ → List ℕ → Stock → Found
item_named part serial s =
    let named = filter (is_item_named part serial) (table.values s.items) in newest_left (newest Nothing named) named
