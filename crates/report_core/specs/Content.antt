-- The content of an item: the item, and all that lies in it, each with its depth.
use Rattle.std.specs.Prelude.{ℕ, List, [], ◌∷◌, map, decimal, Option, option_map}
use Rattle.std.specs.FinMap as table
use Rattle.part_core.specs.Catalogue.{Parts, part_in}
use Rattle.forest.specs.declared.item.Item.{Item}
use Rattle.yard_core.specs.Contents.{content_of}
use Rattle.desk_core.specs.Machine.{State}
use Rattle.report_core.specs.Fields.{name_of, text_or_empty}
use Rattle.report_core.specs.Lines.{Lines}

-- an item, and its depth
abbrev pub node_line : Parts → Item × ℕ → List (List ℕ)
node_line parts node =
    decimal node.1
    ∷ decimal node.0.number
    ∷ name_of (part_in node.0.part parts)
    ∷ decimal node.0.quantity
    ∷ text_or_empty node.0.lot.serial
    ∷ []

-- the item has depth 1; what lies in it comes in order of number, each followed by what lies in that
abbrev pub tree_lines : ℕ → State → Item → Lines
tree_lines number s item = node_line s.parts (item, 1) ∷ map (node_line s.parts) (content_of number s.stock)

-- none where there is no such item; one that is gone is still there
abbrev pub content_lines : ℕ → State → Option Lines
content_lines number s = option_map (tree_lines number s) (table.get s.stock.items (number ∷ []))
