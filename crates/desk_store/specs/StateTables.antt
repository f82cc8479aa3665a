-- Which tables of a file hold a state of the machine, and what a crash leaves of them.
use Rattle.std.specs.Prelude.{◌≡◌, List}
use Rattle.sqlite.specs.Order.{Row}
use Rattle.sqlite.specs.State as sqlite
use Rattle.sqlite.specs.Tree.{Trees}
use Rattle.part_core.specs.NamedRows.{named_columns, named_from}
use Rattle.part_core.specs.PartColumns.{part_columns, part_from}
use Rattle.bom_core.specs.BillColumns.{line_columns, line_from, substitute_columns, substitute_from}
use Rattle.forest.specs.EntryColumns.{entry_columns, entry_from}
use Rattle.forest.specs.ItemColumns.{item_columns, item_from}
use Rattle.alloc_core.specs.AllocationColumns.{allocation_columns, allocation_from}
use Rattle.order_core.specs.OrderColumns as orders
use Rattle.build_core.specs.BuildColumns.{build_columns, build_from}
use Rattle.build_core.specs.SpentColumns.{spent_columns, spent_from}
use Rattle.desk_core.specs.KeptColumns.{kept_columns, kept_from}
use Rattle.desk_core.specs.Machine.{State}
use Rattle.desk_store.specs.MetaColumns.{meta_columns, meta_from, meta_of, only}
use Rattle.desk_store.specs.declared.meta.MetaRow.{MetaRow}
use Rattle.table_store.specs.Opened.{IsAtRest}
use Rattle.table_store.specs.Schema.{tree_number}
use Rattle.table_store.specs.Values.{HasTables}
use Rattle.table_store.specs.Written.{IsTableOf}
use Rattle.table_store.specs.declared.name.TableName.{TableName}
use Rattle.table_store.specs.declared.name.TableName.TheVariants.{Meta, Categories, Locations, Parts, Lines}
use Rattle.table_store.specs.declared.name.TableName.TheVariants.{Substitutes, Items, History, Orders}
use Rattle.table_store.specs.declared.name.TableName.TheVariants.{OrderLines, Builds, Allocations, Kept, Spent}

-- the tree is this table of the state: the rows of its sheet, read as they are, or the one row of `meta`
abbrev pub IsTableIn : State → TableName → List Row → Type 0
IsTableIn s Meta tree = IsTableOf meta_from meta_columns Meta tree (only (meta_of s))
IsTableIn s Categories tree = IsTableOf named_from named_columns Categories tree s.parts.categories
IsTableIn s Locations tree = IsTableOf named_from named_columns Locations tree s.stock.locations
IsTableIn s Parts tree = IsTableOf part_from part_columns Parts tree s.parts.parts
IsTableIn s Lines tree = IsTableOf line_from line_columns Lines tree s.bills.lines
IsTableIn s Substitutes tree = IsTableOf substitute_from substitute_columns Substitutes tree s.bills.substitutes
IsTableIn s Items tree = IsTableOf item_from item_columns Items tree s.stock.items
IsTableIn s History tree = IsTableOf entry_from entry_columns History tree s.stock.history
IsTableIn s Orders tree = IsTableOf orders.order_from orders.order_columns Orders tree s.orders
IsTableIn s OrderLines tree = IsTableOf orders.line_from orders.line_columns OrderLines tree s.order_lines
IsTableIn s Builds tree = IsTableOf build_from build_columns Builds tree s.builds
IsTableIn s Allocations tree = IsTableOf allocation_from allocation_columns Allocations tree s.allocations
IsTableIn s Kept tree = IsTableOf kept_from kept_columns Kept tree s.answers
IsTableIn s Spent tree = IsTableOf spent_from spent_columns Spent tree s.spent

-- the tables hold this state
abbrev pub TablesAre : State → Trees → Type 0
TablesAre s trees = (table : TableName) → IsTableIn s table (trees (tree_number table))

-- the table `meta` has one row, under 1, be it that of this state or of another
pub record HasOneRow (tree : List Row) : Type 0 where
  pub row : MetaRow
  pub key : row.one ≡ 1
  pub table : IsTableOf meta_from meta_columns Meta tree (only row)

-- within a transaction the tree is this table of the state; the row of the counter is written last, so of `meta` nothing is
-- said but that it has one
abbrev pub IsTableSoFar : State → TableName → List Row → Type 0
IsTableSoFar s Meta tree = HasOneRow tree
IsTableSoFar s table tree = IsTableIn s table tree

-- within a transaction the tables hold this state, but for the row of the counter
abbrev pub TablesAreSoFar : State → Trees → Type 0
TablesAreSoFar s trees = (table : TableName) → IsTableSoFar s table (trees (tree_number table))

-- between two transactions the database holds this state, and a crash leaves it
pub record HoldsBooks (s : State) (d : sqlite.State) : Type 0 where
  pub rest : IsAtRest d
  pub tables : HasTables d
  pub books : TablesAre s d.now.trees
  pub left : (trees : Trees) → d.may_leave trees → TablesAre s trees
