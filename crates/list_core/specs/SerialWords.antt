-- A word that is a serial: the items that it may say.
use Rattle.std.specs.Prelude.{ℕ, ◌&&◌, not, Bool, false, List, [], ◌∷◌, ◌++◌, map, filter, decimal, codes, Option, Some, None}
use Rattle.std.specs.FinMap as table
use Rattle.std.specs.Str.{bytes_eq}
use Rattle.part_core.specs.Catalogue.{part_in}
use Rattle.part_core.specs.declared.found.Found.{Found}
use Rattle.part_core.specs.declared.found.Found.TheVariants.{Nothing, One, Several}
use Rattle.forest.specs.declared.item.Item.{Item}
use Rattle.yard_core.specs.Stock.{is_gone}
use Rattle.desk_core.specs.Machine.{State}
use Rattle.report_core.specs.Fields.{name_of}
use Rattle.list_core.specs.Facts.{commas}

abbrev pub is_serial : List ℕ → Option (List ℕ) → Bool
is_serial word None = false
is_serial word (Some serial) = bytes_eq serial word

-- the items with this serial that aren't gone, by number
abbrev pub items_called : List ℕ → State → List Item
items_called word s = filter (λ x. is_serial word x.lot.serial && not (is_gone x.place)) (table.values s.stock.items)

-- the one of them, if there is one alone
abbrev pub found_among : List Item → Found
found_among [] = Nothing
found_among (x ∷ []) = One x.number
found_among (x ∷ y ∷ zs) = Several

-- what a word is found to be, as a serial
abbrev pub serial_found : List ℕ → State → Found
serial_found word s = found_among (items_called word s)

-- an item by its part's name and its number
abbrev pub called : State → Item → List ℕ
called s x = name_of (part_in x.part s.parts) ++ (codes " (item " ++ (decimal x.number ++ codes ")"))

-- all of them, with a comma between two
abbrev pub called_text : List ℕ → State → List ℕ
called_text word s = commas (map (called s) (items_called word s))
