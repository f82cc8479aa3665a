-- The tables of a new desk.
use Rattle.std.proofs.Common.{◌≡◌, List, [], Option, IsTrue, sym, ap, ◌∙◌, subst}
use Rattle.std.specs.FinMap.{empty}
use Rattle.sqlite.specs.Effect.{Database}
use Rattle.sqlite.specs.Held.{Held, state}
use Rattle.sqlite.specs.Order.{Row}
use Rattle.sqlite.specs.State as sqlite
use Rattle.sqlite.specs.Tree.{Trees}
use Rattle.sqlite_trees.specs.View.{IsClean, IsRolledBack as IsUndone, IsShaped}
use Rattle.sqlite_trees.specs.declared.store.Store.{Ghosts}
use Rattle.sqlite_trees.specs.declared.store.Shape.TheVariants.{Table}
use Rattle.part_core.specs.NamedRows.{named_columns, named_from}
use Rattle.part_core.specs.PartColumns.{part_columns, part_from}
use Rattle.sheet_core.specs.declared.column.Column.{Column}
use Rattle.word_core.specs.declared.limits.Limits.{Limits}
use Rattle.sheet_core.proofs.RowLemmas.{each-empty}
use Rattle.bom_core.specs.BillColumns.{line_columns, line_from, substitute_columns, substitute_from}
use Rattle.forest.specs.EntryColumns.{entry_columns, entry_from}
use Rattle.forest.specs.ItemColumns.{item_columns, item_from}
use Rattle.alloc_core.specs.AllocationColumns.{allocation_columns, allocation_from}
use Rattle.order_core.specs.OrderColumns as orders
use Rattle.build_core.specs.BuildColumns.{build_columns, build_from}
use Rattle.build_core.specs.SpentColumns.{spent_columns, spent_from}
use Rattle.desk_core.specs.KeptColumns.{kept_columns, kept_from}
use Rattle.desk_core.specs.Machine.{start}
use Rattle.desk_store.specs.StateTables.{TablesAre}
use Rattle.desk_store.specs.MetaColumns.{meta_columns, meta_from, meta_of, only}
use Rattle.desk_store.specs.Opening.{IsOfCreating, MayBeMade, open_fault_of}
use Rattle.desk_store.specs.Saving.{IsUnderWay}
use Rattle.desk_store.specs.declared.fault.OpenFault.{OpenFault}
use Rattle.desk_store.specs.declared.fault.OpenFault.TheVariants.{Foreign}
use Rattle.desk_store.proofs.Midway.{all_written}
use Rattle.table_store.specs.Making.{IsFresh}
use Rattle.table_store.specs.Schema.{tree_number}
use Rattle.table_store.specs.Transactions.{IsOfMemoryOrStore, IsOfStore, Stops}
use Rattle.table_store.specs.Values.{IsInside}
use Rattle.table_store.specs.Written.{IsReady, IsRead, IsTableOf, Writes, tree_of}
use Rattle.table_store.specs.declared.fault.TableFault.{TableFault}
use Rattle.table_store.specs.declared.fault.TableFault.TheVariants.{Memory, Store, NoTable, BadRow}
use Rattle.table_store.specs.declared.name.TableName.{TableName}
use Rattle.table_store.specs.declared.name.TableName.TheVariants.{Meta, Categories, Locations, Parts, Lines}
use Rattle.table_store.specs.declared.name.TableName.TheVariants.{Substitutes, Items, History, Orders}
use Rattle.table_store.specs.declared.name.TableName.TheVariants.{OrderLines, Builds, Allocations, Kept, Spent}
use Rattle.table_store.proofs.Fillings.{holds-empty}

-- an empty tree is the table of no rows
pub no_rows : {X : Type 0} (from : List Column → Option X) (columns : X → List Column) (table : TableName)
    (tree : List Row) → tree ≡ [] → IsTableOf from columns table tree empty
no_rows from columns table tree none =
    record { holds = holds-empty columns table tree none; read = each-empty (IsRead from columns) }

-- beside the row of the counter a new desk's tables have nothing
pub started : (limits : Limits) (d e : sqlite.State) → IsFresh d → Writes Meta d e
    → IsTableOf meta_from meta_columns Meta (tree_of Meta e) (only (meta_of (start limits)))
    → IsUnderWay (start limits) (start limits) 14 e
started limits d e fresh wrote meta = record {
  ready = ((wrote.tables, wrote.shown.mode), wrote.shown.is_open);
  midway = all_written (start limits) (start limits) e.now.trees each_one;
}
  where
    each_one : TablesAre (start limits) e.now.trees
    each_one Meta = meta
    each_one Categories =
        no_rows named_from named_columns Categories (tree_of Categories e)
        (wrote.others Categories (λ e. cc) ∙ fresh.empty Categories)
    each_one Locations =
        no_rows named_from named_columns Locations (tree_of Locations e)
        (wrote.others Locations (λ e. cc) ∙ fresh.empty Locations)
    each_one Parts =
        no_rows part_from part_columns Parts (tree_of Parts e) (wrote.others Parts (λ e. cc) ∙ fresh.empty Parts)
    each_one Lines =
        no_rows line_from line_columns Lines (tree_of Lines e) (wrote.others Lines (λ e. cc) ∙ fresh.empty Lines)
    each_one Substitutes =
        no_rows substitute_from substitute_columns Substitutes (tree_of Substitutes e)
        (wrote.others Substitutes (λ e. cc) ∙ fresh.empty Substitutes)
    each_one Items =
        no_rows item_from item_columns Items (tree_of Items e) (wrote.others Items (λ e. cc) ∙ fresh.empty Items)
    each_one History =
        no_rows entry_from entry_columns History (tree_of History e)
        (wrote.others History (λ e. cc) ∙ fresh.empty History)
    each_one Orders =
        no_rows orders.order_from orders.order_columns Orders (tree_of Orders e)
        (wrote.others Orders (λ e. cc) ∙ fresh.empty Orders)
    each_one OrderLines =
        no_rows orders.line_from orders.line_columns OrderLines (tree_of OrderLines e)
        (wrote.others OrderLines (λ e. cc) ∙ fresh.empty OrderLines)
    each_one Builds =
        no_rows build_from build_columns Builds (tree_of Builds e) (wrote.others Builds (λ e. cc) ∙ fresh.empty Builds)
    each_one Allocations =
        no_rows allocation_from allocation_columns Allocations (tree_of Allocations e)
        (wrote.others Allocations (λ e. cc) ∙ fresh.empty Allocations)
    each_one Spent =
        no_rows spent_from spent_columns Spent (tree_of Spent e)
        (wrote.others Spent (λ e. cc) ∙ fresh.empty Spent)
    each_one Kept =
        no_rows kept_from kept_columns Kept (tree_of Kept e) (wrote.others Kept (λ e. cc) ∙ fresh.empty Kept)

-- a look changes nothing, and tells that the database answers
pub ready_still : (d e : sqlite.State) → IsInside d → sqlite.IsUnchanged d e → IsReady e
ready_still d e inside same = (
  (
    record {
      schema = ap (λ (db : Database). db.schema) same.0.now_is ∙ inside.0.schema;
      shaped =
          λ table. subst (λ (db : Database). IsShaped Table (db.trees (tree_number table))) (sym same.0.now_is)
          (inside.0.shaped table);
    },
    same.0.mode ∙ inside.1,
  ),
  same.0.is_open,
)

pub fresh_still : (d e : sqlite.State) → IsFresh d → sqlite.IsUnchanged d e → IsFresh e
fresh_still d e fresh same = record {
  schema = ap (λ (db : Database). db.schema) same.0.now_is ∙ fresh.schema;
  empty = λ table. ap (λ (db : Database). db.trees (tree_number table)) same.0.now_is ∙ fresh.empty table;
}

-- ---- faults

pub of_store : (fault : TableFault) → IsOfStore fault → IsOfMemoryOrStore fault
of_store Memory of = tt
of_store (Store failed) of = tt
of_store (NoTable failed) of = absurd of
of_store (BadRow failed) of = absurd of

pub never_foreign : (fault : TableFault) (told : OpenFault) → IsOfMemoryOrStore fault → told ≡ open_fault_of fault
    → told ≡ Foreign → ⊥
never_foreign Memory told of e f = absurd (let bad = sym e ∙ f in cc)
never_foreign (Store failed) told of e f = absurd (let bad = sym e ∙ f in cc)
never_foreign (NoTable failed) told of e f = absurd of
never_foreign (BadRow failed) told of e f = absurd of

of_creating : (fault : TableFault) → IsOfMemoryOrStore fault → IsOfCreating (open_fault_of fault)
of_creating Memory of = tt
of_creating (Store failed) of = tt
of_creating (NoTable failed) of = absurd of
of_creating (BadRow failed) of = absurd of

pub told_of_creating : (fault : TableFault) (told : OpenFault) → IsOfMemoryOrStore fault → told ≡ open_fault_of fault
    → IsOfCreating told
told_of_creating fault told of e = subst IsOfCreating (sym e) (of_creating fault of)

may_be_made : (limits : Limits) (trees : Trees) (a b : sqlite.State) (fault : TableFault) → Stops a b fault
    → TablesAre (start limits) trees → MayBeMade limits trees (open_fault_of fault)
may_be_made limits trees a b Memory stops made = absurd stops
may_be_made limits trees a b (Store failed) stops made = made
may_be_made limits trees a b (NoTable failed) stops made = absurd stops
may_be_made limits trees a b (BadRow failed) stops made = absurd stops

pub told_made : (limits : Limits) (trees : Trees) (a b : sqlite.State) (fault : TableFault) (told : OpenFault)
    → told ≡ open_fault_of fault → Stops a b fault → TablesAre (start limits) trees → MayBeMade limits trees told
told_made limits trees a b fault told e stops made =
    subst (MayBeMade limits trees) (sym e) (may_be_made limits trees a b fault stops made)

-- the database that a connection hands back has the tables of the last commit, which is the one that was before where
-- nothing was committed since
pub handed : {S : Type 0} (g : Ghosts S) (h : Held S) (database : S) → IsUndone (g.view h.store) (g.view database)
    → IsClean (g.view database) → (before : sqlite.State) → sqlite.KeepsCommit before (state g h)
    → IsTrue (g.view database).is_open
    → (g.view database).trees ≡ before.committed.trees
handed g h database undone clean before keeps up =
    let was = (undone.kept clean).was_open up in
    (undone.undone up).0 ∙ ap (λ (db : Database). db.trees) (keeps.committed was)
