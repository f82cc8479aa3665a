-- Where a part lies: the ways of the locations at which its items lie.
use Rattle.std.specs.Prelude.{ℕ, ◌==◌, Bool, true, false, List, [], ◌∷◌, ◌++◌, map, filter, codes, Option, Some, None}
use Rattle.std.specs.Prelude.{if◌then◌else◌}
use Rattle.std.specs.FinMap as table
use Rattle.std.specs.List.{list_any}
use Rattle.forest.specs.declared.item.Item.{Item}
use Rattle.yard_core.specs.Stock.{root_place}
use Rattle.desk_core.specs.Machine.{State}
use Rattle.list_core.specs.PlaceList.{location_of}
use Rattle.list_core.specs.Ways.{way_text}

-- the location at which an item lies, by itself or in what lies there, at any depth
abbrev pub location_under : State → Item → Option ℕ
location_under s x = location_of (root_place s.stock.items x.number)

-- a location more, unless it is there
abbrev pub with_location : List ℕ → Option ℕ → List ℕ
with_location ls None = ls
with_location ls (Some l) = if list_any (λ m. m == l) ls then ls else ls ++ l ∷ []

-- the locations of items behind these, each once
abbrev pub locations_from : State → List ℕ → List Item → List ℕ
locations_from s ls [] = ls
locations_from s ls (x ∷ xs) = locations_from s (with_location ls (location_under s x)) xs

-- those of a part's items, in the order of their numbers
abbrev pub locations_of : State → ℕ → List ℕ
locations_of s part = locations_from s [] (filter (λ x. x.part == part) (table.values s.stock.items))

-- texts with a semicolon between two
abbrev pub semicolons : Bool → List (List ℕ) → List ℕ
semicolons later [] = []
semicolons later (t ∷ ts) = (if later then codes "; " else []) ++ (t ++ semicolons true ts)

-- the ways of locations
abbrev pub ways_text : State → List ℕ → List ℕ
ways_text s locations = semicolons false (map (λ l. way_text (Some l) s.stock.locations) locations)

-- where the part of that number lies
abbrev pub lies_text : State → ℕ → List ℕ
lies_text s part = ways_text s (locations_of s part)
