-- Tables by their names.
use Rattle.std.specs.Prelude.{codes, ℕ, List, Option, Some, None, if◌then◌else◌}
use Rattle.std.specs.Str.{bytes_eq}
use Rattle.table_store.specs.declared.name.TableName.{TableName}
use Rattle.table_store.specs.declared.name.TableName.TheVariants as table

-- the table of that name
abbrev pub table_named : List ℕ → Option TableName
table_named name =
    if bytes_eq name (codes "meta") then Some table.Meta
    else if bytes_eq name (codes "categories") then Some table.Categories
    else if bytes_eq name (codes "locations") then Some table.Locations
    else if bytes_eq name (codes "parts") then Some table.Parts
    else if bytes_eq name (codes "lines") then Some table.Lines
    else if bytes_eq name (codes "substitutes") then Some table.Substitutes
    else if bytes_eq name (codes "items") then Some table.Items
    else if bytes_eq name (codes "history") then Some table.History
    else if bytes_eq name (codes "orders") then Some table.Orders
    else if bytes_eq name (codes "order_lines") then Some table.OrderLines
    else if bytes_eq name (codes "builds") then Some table.Builds
    else if bytes_eq name (codes "allocations") then Some table.Allocations
    else if bytes_eq name (codes "kept") then Some table.Kept
    else if bytes_eq name (codes "spent") then Some table.Spent
    else None
