-- Why a database is no desk's.
use Rattle.std.specs.Prelude.{codes, ◌≡◌, ◌≢◌, ◌⊎◌, ℕ, List, [], Option, None, Some, Contains}
use Rattle.sqlite.specs.Tree.{Trees}
use Rattle.sqlite_catalog.specs.Listing.{IsSound}
use Rattle.part_core.specs.NamedRows.{named_columns, named_from}
use Rattle.part_core.specs.PartColumns.{part_columns, part_from}
use Rattle.word_core.specs.declared.limits.Limits.{Limits}
use Rattle.bom_core.specs.BillColumns.{line_columns, line_from, substitute_columns, substitute_from}
use Rattle.forest.specs.EntryColumns.{entry_columns, entry_from}
use Rattle.forest.specs.ItemColumns.{item_columns, item_from}
use Rattle.alloc_core.specs.AllocationColumns.{allocation_columns, allocation_from}
use Rattle.order_core.specs.OrderColumns as orders
use Rattle.build_core.specs.BuildColumns.{build_columns, build_from}
use Rattle.build_core.specs.SpentColumns.{spent_columns, spent_from}
use Rattle.desk_core.specs.KeptColumns.{kept_columns, kept_from}
use Rattle.desk_core.specs.Machine.{IsSoundState, State, start}
use Rattle.desk_store.specs.StateTables.{TablesAre}
use Rattle.desk_store.specs.MetaColumns.{meta_columns, meta_from}
use Rattle.desk_store.specs.declared.fault.OpenFault.{OpenFault}
use Rattle.desk_store.specs.declared.fault.OpenFault.TheVariants.{Memory, Store, Foreign, Old, Damaged}
use Rattle.desk_store.specs.declared.meta.MetaRow.{MetaRow}
use Rattle.table_store.specs.Faults.{failed_text}
use Rattle.table_store.specs.Opened.{IsForeign}
use Rattle.table_store.specs.Schema.{desk_schema, old_schema, tree_number}
use Rattle.table_store.specs.Stored.{AreLoaded}
use Rattle.table_store.specs.Written.{IsTableOfNone, IsTableOfNoneOwn}
use Rattle.table_store.specs.declared.fault.Cause.TheVariants.{BadRow}
use Rattle.table_store.specs.declared.fault.Failed.{Failed}
use Rattle.table_store.specs.declared.fault.TableFault.{TableFault}
use Rattle.table_store.specs.declared.fault.TableFault.TheVariants as table_fault
use Rattle.table_store.specs.declared.name.TableName.{TableName}
use Rattle.table_store.specs.declared.name.TableName.TheVariants.{Meta, Categories, Locations, Parts, Lines}
use Rattle.table_store.specs.declared.name.TableName.TheVariants.{Substitutes, Items, History, Orders}
use Rattle.table_store.specs.declared.name.TableName.TheVariants.{OrderLines, Builds, Allocations, Kept, Spent}

-- the rows of `meta` are such rows, and one has another version
pub record IsOfOtherVersion (trees : Trees) : Type 0 where
  pub rows : List MetaRow
  pub loaded : AreLoaded meta_from meta_columns Meta (trees (tree_number Meta)) rows
  pub row : MetaRow
  pub there : Contains rows row
  pub other : row.version ≢ 2

-- each of these rows has this version
abbrev pub AreOfVersion : ℕ → List MetaRow → Type 0
AreOfVersion version rows = (row : MetaRow) → Contains rows row → row.version ≡ version

-- one of these rows has another version
abbrev pub HasOtherVersion : ℕ → List MetaRow → Type 0
HasOtherVersion version rows = (row : MetaRow) × Contains rows row × (row.version ≢ version)

-- they are the tables of version 1: the schema is, and `meta` has rows, each of which can be read and has version 1
pub record IsOld (trees : Trees) : Type 0 where
  pub listed : IsSound old_schema trees
  pub rows : List MetaRow
  pub loaded : AreLoaded meta_from meta_columns Meta (trees (tree_number Meta)) rows
  pub some : rows ≢ []
  pub version : AreOfVersion 1 rows

-- they are no desk's: the schema is another one, or it is version 1's and the tables aren't, or it is this version's
-- and `meta` has another version
abbrev pub AreForeign : Trees → Type 0
AreForeign trees =
    IsForeign trees ⊎ ((IsSound old_schema trees × ¬ IsOld trees) ⊎ (IsSound desk_schema trees × IsOfOtherVersion trees))

-- the tables are those of no sound state
abbrev pub AreNoBooks : Trees → Type 0
AreNoBooks trees = (s : State) → IsSoundState s → ¬ TablesAre s trees

-- the table is that of no rows of the machine, and `kept` of none that stand under their words
abbrev pub IsBroken : TableName → Trees → Type 0
IsBroken Meta trees = IsTableOfNone meta_from meta_columns Meta (trees (tree_number Meta))
IsBroken Categories trees = IsTableOfNone named_from named_columns Categories (trees (tree_number Categories))
IsBroken Locations trees = IsTableOfNone named_from named_columns Locations (trees (tree_number Locations))
IsBroken Parts trees = IsTableOfNone part_from part_columns Parts (trees (tree_number Parts))
IsBroken Lines trees = IsTableOfNone line_from line_columns Lines (trees (tree_number Lines))
IsBroken Substitutes trees = IsTableOfNone substitute_from substitute_columns Substitutes (trees (tree_number Substitutes))
IsBroken Items trees = IsTableOfNone item_from item_columns Items (trees (tree_number Items))
IsBroken History trees = IsTableOfNone entry_from entry_columns History (trees (tree_number History))
IsBroken Orders trees = IsTableOfNone orders.order_from orders.order_columns Orders (trees (tree_number Orders))
IsBroken OrderLines trees = IsTableOfNone orders.line_from orders.line_columns OrderLines (trees (tree_number OrderLines))
IsBroken Builds trees = IsTableOfNone build_from build_columns Builds (trees (tree_number Builds))
IsBroken Allocations trees = IsTableOfNone allocation_from allocation_columns Allocations (trees (tree_number Allocations))
IsBroken Spent trees = IsTableOfNone spent_from spent_columns Spent (trees (tree_number Spent))
IsBroken Kept trees = IsTableOfNoneOwn kept_from kept_columns (λ row. row.word) Kept (trees (tree_number Kept))

-- the fault names a table that is broken
pub record NamesBroken (trees : Trees) (failed : Failed) : Type 0 where
  pub table : TableName
  pub named : failed.cause ≡ BadRow table
  pub broken : IsBroken table trees

-- what is told of damaged tables
abbrev pub IsDamage : Trees → Option Failed → Type 0
IsDamage trees None = Unit {0}
IsDamage trees (Some failed) = NamesBroken trees failed

-- what it tells of the tables that there is no desk: they are no desk's, those of version 1, or damaged and neither
abbrev pub WhyNot : Trees → OpenFault → Type 0
WhyNot trees Memory = Unit {0}
WhyNot trees (Store failed) = Unit {0}
WhyNot trees Foreign = AreForeign trees
WhyNot trees Old = IsOld trees
WhyNot trees (Damaged told) = AreNoBooks trees × IsDamage trees told × ¬ AreForeign trees × ¬ IsOld trees

-- what it tells of tables of this version's schema: they are foreign in this sense, or damaged and not foreign
abbrev pub WhyBut : (Trees → Type 0) → Trees → OpenFault → Type 0
WhyBut AreOthers trees Memory = Unit {0}
WhyBut AreOthers trees (Store failed) = Unit {0}
WhyBut AreOthers trees Foreign = AreOthers trees
WhyBut AreOthers trees Old = ⊥
WhyBut AreOthers trees (Damaged told) = AreNoBooks trees × IsDamage trees told × ¬ AreOthers trees

-- what it tells of tables of version 1's schema that the rows of `meta` aren't version 1's
abbrev pub WhyNoneOld : Trees → OpenFault → Type 0
WhyNoneOld trees Memory = Unit {0}
WhyNoneOld trees (Store failed) = Unit {0}
WhyNoneOld trees Foreign = IsSound old_schema trees × ¬ IsOld trees
WhyNoneOld trees _ = ⊥

-- what it tells of tables whose schema and version aren't looked at
abbrev pub WhyUnread : Trees → OpenFault → Type 0
WhyUnread = WhyBut (λ trees. ⊥)

-- a fault that the making of a desk may end with
abbrev pub IsOfCreating : OpenFault → Type 0
IsOfCreating Old = ⊥
IsOfCreating (Damaged failed) = ⊥
IsOfCreating _ = Unit {0}

-- what a crash leaves beside the database as it was: a new desk's tables, where the database failed
abbrev pub MayBeMade : Limits → Trees → OpenFault → Type 0
MayBeMade limits trees (Store failed) = TablesAre (start limits) trees
MayBeMade limits trees _ = ⊥

-- a fault of a table, as the opening tells it
abbrev pub open_fault_of : TableFault → OpenFault
open_fault_of table_fault.Memory = Memory
open_fault_of (table_fault.Store failed) = Store failed
open_fault_of (table_fault.NoTable failed) = Foreign
open_fault_of (table_fault.BadRow failed) = Damaged (Some failed)

-- why there is no desk, as text; where the database answered so, `failed_text` has none
abbrev pub open_fault_text : OpenFault → Option (List ℕ)
open_fault_text Memory = Some (codes "no memory")
open_fault_text (Store failed) = failed_text failed
open_fault_text Foreign = Some (codes "the file is no workshop's, or of another version")
open_fault_text Old = Some (codes "the file was written by an earlier version of this program")
open_fault_text (Damaged (Some failed)) = failed_text failed
open_fault_text (Damaged None) = Some (codes "the rows of the tables do not fit one another")
