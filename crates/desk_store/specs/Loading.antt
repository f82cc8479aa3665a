-- What is read of the tables, and what a call that reads them leaves.
use Rattle.std.specs.Prelude.{◌≡◌, ◌⊎◌, ℕ, List, [], ◌∷◌, Option, None, Some}
use Rattle.std.specs.Prelude.{Result, IfOk, IfErr, OnOk, OnErr, Contains, ◌≢◌}
use Rattle.sqlite.specs.Order.{Row}
use Rattle.sqlite.specs.State.{State, HasCleanDisk, IsUnchanged, IsRolledBack, Survives}
use Rattle.sqlite.specs.Tree.{Trees}
use Rattle.part_core.specs.NamedRows.{named_columns, named_from}
use Rattle.part_core.specs.PartColumns.{part_columns, part_from}
use Rattle.part_core.specs.declared.named_row.NamedRow.{NamedRow as Category}
use Rattle.sheet_core.specs.declared.column.Column.{Column}
use Rattle.part_core.specs.declared.part.Part.{Part}
use Rattle.bom_core.specs.BillColumns.{line_columns, line_from, substitute_columns, substitute_from}
use Rattle.bom_core.specs.declared.line.Line.{Line}
use Rattle.bom_core.specs.declared.substitute.Substitute.{Substitute}
use Rattle.forest.specs.EntryColumns.{entry_columns, entry_from}
use Rattle.forest.specs.ItemColumns.{item_columns, item_from}
use Rattle.forest.specs.declared.entry.Entry.{Entry}
use Rattle.forest.specs.declared.item.Item.{Item}
use Rattle.part_core.specs.declared.named_row.NamedRow.{NamedRow as Location}
use Rattle.alloc_core.specs.AllocationColumns.{allocation_columns, allocation_from}
use Rattle.alloc_core.specs.declared.allocation.Allocation.{Allocation}
use Rattle.order_core.specs.OrderColumns as orders
use Rattle.order_core.specs.declared.line.OrderLine.{OrderLine}
use Rattle.order_core.specs.declared.order.Order.{Order}
use Rattle.build_core.specs.BuildColumns.{build_columns, build_from}
use Rattle.build_core.specs.SpentColumns.{spent_columns, spent_from}
use Rattle.build_core.specs.declared.build.Build.{Build}
use Rattle.build_core.specs.declared.spent.Spent.{Spent as SpentRow}
use Rattle.desk_core.specs.KeptColumns.{kept_columns, kept_from}
use Rattle.desk_core.specs.Machine as machine
use Rattle.desk_core.specs.ShopView.{state_of}
use Rattle.desk_core.specs.declared.kept.Kept.{Kept as KeptRow}
use Rattle.desk_core.specs.declared.shop.Shop.{Shop}
use Rattle.desk_core.specs.declared.shop.assemble.Tables.{Tables}
use Rattle.desk_store.specs.StateTables.{TablesAre}
use Rattle.desk_store.specs.MetaColumns.{meta_columns, meta_from, only}
use Rattle.desk_store.specs.Opening.{AreOfVersion, HasOtherVersion, IsOfOtherVersion, IsOld}
use Rattle.desk_store.specs.declared.fault.OpenFault.{OpenFault}
use Rattle.desk_store.specs.declared.fault.OpenFault.TheVariants as why
use Rattle.desk_store.specs.declared.meta.MetaRow.{MetaRow}
use Rattle.table_store.specs.Schema.{tree_number}
use Rattle.table_store.specs.Stored.{AreLoaded}
use Rattle.table_store.specs.Written.{AreItsRows, IsTableOf}
use Rattle.table_store.specs.declared.name.TableName.{TableName}
use Rattle.table_store.specs.declared.name.TableName.TheVariants.{Meta, Categories, Locations, Parts, Lines}
use Rattle.table_store.specs.declared.name.TableName.TheVariants.{Substitutes, Items, History, Orders}
use Rattle.table_store.specs.declared.name.TableName.TheVariants.{OrderLines, Builds, Allocations, Kept, Spent}

-- ---- calls that read

-- What a call answers is so of the tables, or its fault is. It changes nothing, and a crash leaves nothing new.
pub record Reads {X : Type 0} (Gives : Trees → X → Type 0) (Why : Trees → OpenFault → Type 0) (old new : State)
    (r : Result X OpenFault) : Type 0 where
  pub gives : HasCleanDisk new → IfOk r (Gives old.now.trees)
  pub why : HasCleanDisk new → IfErr r (Why old.now.trees)
  pub same : HasCleanDisk new → OnOk r (IsUnchanged old new)
  pub failed : HasCleanDisk new → OnErr r (IsUnchanged old new ⊎ IsRolledBack old new)
  pub crash : Survives old new (λ _. ⊥)

-- ---- the rows of the tables

module _ {R : Type 0} (row_from : List Column → Option R) (columns_of : R → List Column) (key_of : R → List ℕ) where
  -- these rows were loaded, and no others under their keys are those of the tree
  pub record AreTheRows (table : TableName) (tree : List Row) (rows : List R) : Type 0 where
    pub loaded : AreLoaded row_from columns_of table tree rows
    pub its : AreItsRows row_from columns_of key_of table tree rows

pub record ArePartRows (trees : Trees) (categories : List Category) (parts : List Part) : Type 0 where
  pub categories_are : AreTheRows named_from named_columns (λ row. row.number ∷ []) Categories
      (trees (tree_number Categories)) categories
  pub parts_are : AreTheRows part_from part_columns (λ row. row.number ∷ []) Parts (trees (tree_number Parts)) parts

pub record AreBillRows (trees : Trees) (lines : List Line) (substitutes : List Substitute) : Type 0 where
  pub lines_are : AreTheRows line_from line_columns (λ row. row.number ∷ []) Lines (trees (tree_number Lines)) lines
  pub substitutes_are : AreTheRows substitute_from substitute_columns (λ row. row.number ∷ []) Substitutes
      (trees (tree_number Substitutes)) substitutes

pub record AreStockRows (trees : Trees) (locations : List Location) (items : List Item)
    (history : List Entry) : Type 0 where
  pub locations_are : AreTheRows named_from named_columns (λ row. row.number ∷ []) Locations
      (trees (tree_number Locations)) locations
  pub items_are : AreTheRows item_from item_columns (λ row. row.number ∷ []) Items (trees (tree_number Items)) items
  pub history_are : AreTheRows entry_from entry_columns (λ row. row.number ∷ []) History
      (trees (tree_number History)) history

pub record AreOrderRows (trees : Trees) (orders_in : List Order) (lines : List OrderLine) : Type 0 where
  pub orders_are : AreTheRows orders.order_from orders.order_columns (λ row. row.number ∷ []) Orders
      (trees (tree_number Orders)) orders_in
  pub lines_are : AreTheRows orders.line_from orders.line_columns (λ row. row.number ∷ []) OrderLines
      (trees (tree_number OrderLines)) lines

pub record AreBuildRows (trees : Trees) (builds : List Build) (allocations : List Allocation)
    (spent : List SpentRow) : Type 0 where
  pub builds_are : AreTheRows build_from build_columns (λ row. row.number ∷ []) Builds (trees (tree_number Builds)) builds
  pub allocations_are : AreTheRows allocation_from allocation_columns (λ row. row.number ∷ []) Allocations
      (trees (tree_number Allocations)) allocations
  pub spent_are : AreTheRows spent_from spent_columns (λ row. row.number ∷ []) Spent (trees (tree_number Spent)) spent

abbrev pub AreAnswers : Trees → List KeptRow → Type 0
AreAnswers trees answers = AreItsRows kept_from kept_columns (λ row. row.word) Kept (trees (tree_number Kept)) answers

-- ---- the row of the counter

-- the tree of `meta` is the table of this row alone, which has the key 1 and the version 2, and of no other; so no row
-- there has another version
pub record IsMetaRow (trees : Trees) (row : MetaRow) : Type 0 where
  pub table : IsTableOf meta_from meta_columns Meta (trees (tree_number Meta)) (only row)
  pub sole : (other : MetaRow) → IsTableOf meta_from meta_columns Meta (trees (tree_number Meta)) (only other)
      → other ≡ row
  pub one : row.one ≡ 1
  pub version : row.version ≡ 2
  pub this : ¬ IsOfOtherVersion trees

-- each of these rows has the version 2
abbrev pub AreOfThisVersion : List MetaRow → Type 0
AreOfThisVersion = AreOfVersion 2

-- why these rows of `meta` aren't one row with the key 1 and the version 2
abbrev pub IsNoMeta : List MetaRow → OpenFault → Type 0
IsNoMeta rows why.Memory = ⊥
IsNoMeta rows (why.Store failed) = ⊥
IsNoMeta rows why.Foreign = HasOtherVersion 2 rows
IsNoMeta rows why.Old = ⊥
IsNoMeta rows (why.Damaged None) = ((row : MetaRow) → row.one ≡ 1 → rows ≢ row ∷ []) × AreOfThisVersion rows
IsNoMeta rows (why.Damaged (Some failed)) = ⊥

-- these rows are those of `meta` in the tables of version 1
pub record AreOldRows (trees : Trees) (rows : List MetaRow) : Type 0 where
  pub are : AreTheRows meta_from meta_columns (λ row. row.one ∷ []) Meta (trees (tree_number Meta)) rows
  pub version : AreOfVersion 1 rows
  pub old : IsOld trees

-- the row that the counter of these tables has
abbrev pub meta_in : Tables → MetaRow
meta_in t = record {
  one = 1;
  version = 2;
  next = t.next;
  entries = t.entries;
  max_numbers = t.limits.numbers;
  max_entries = t.limits.entries;
}

-- ---- all tables

-- these rows are those of the tables beside `meta`
pub record AreSheets (trees : Trees) (t : Tables) : Type 0 where
  pub catalogue : ArePartRows trees t.categories.items t.parts.items
  pub bills : AreBillRows trees t.lines.items t.substitutes.items
  pub stock : AreStockRows trees t.locations.items t.items.items t.history.items
  pub orders : AreOrderRows trees t.orders.items t.order_lines.items
      × AreBuildRows trees t.builds.items t.allocations.items t.spent.items
  pub answers : AreAnswers trees t.answers.items

-- these rows are those of the tables
pub record AreTables (trees : Trees) (t : Tables) : Type 0 where
  pub meta : IsMetaRow trees (meta_in t)
  pub sheets : AreSheets trees t

-- the tables are those of the shop's state, and of no other sound state
pub record AreBooksOf (trees : Trees) (shop : Shop) : Type 0 where
  pub tables : TablesAre (state_of shop) trees
  pub one : (s : machine.State) → machine.IsSoundState s → TablesAre s trees → s ≡ state_of shop
