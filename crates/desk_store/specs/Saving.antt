-- A state goes into the tables in the place of another, one table after the other.
use Rattle.std.specs.Prelude.{◌⊎◌, ◌<◌, ◌≤◌, ◌-◌, ℕ, All, List, Option, Result, IfErr, OnOk}
use Rattle.sqlite.specs.Order.{Row}
use Rattle.sqlite.specs.State as sqlite
use Rattle.sqlite.specs.State.{HasCleanDisk, KeepsCommit, Survives}
use Rattle.sqlite.specs.Tree.{Trees}
use Rattle.sheet_core.specs.Columns.{AreSmall, IsSmall}
use Rattle.sheet_core.specs.Filled.{StandUnderKeys}
use Rattle.sheet_core.specs.Rows.{StayThere}
use Rattle.sheet_core.specs.Sheet.{Rows, now_of}
use Rattle.sheet_core.specs.declared.column.Column.{Column}
use Rattle.desk_core.specs.Machine.{IsSoundState, State}
use Rattle.desk_core.specs.Small.{HasSmallRows}
use Rattle.desk_core.specs.Staying.{AllStay}
use Rattle.desk_store.specs.StateTables.{IsTableIn, IsTableSoFar}
use Rattle.desk_store.specs.MetaColumns.{meta_columns, meta_of}
use Rattle.table_store.specs.Schema.{position, tree_number}
use Rattle.table_store.specs.Transactions.{IsOfMemoryOrStore}
use Rattle.table_store.specs.Values.{AreDropped}
use Rattle.table_store.specs.Written.{IsReady, IsTableOf, Suits}
use Rattle.table_store.specs.declared.fault.TableFault.{TableFault}
use Rattle.table_store.specs.declared.name.TableName.{TableName}
use Rattle.table_store.specs.declared.name.TableName.TheVariants.{Meta}

-- ---- tables that are written

-- the turn of a table: all are written in their order, but for `meta`, whose turn is the last
abbrev pub turn_of : TableName → ℕ
turn_of Meta = 13
turn_of table = position table - 1

-- so many turns are over: the tables that had theirs are those of the new state, and the others those of the old one, but
-- that the row of the counter may be another's
pub record IsMidway (old new : State) (count : ℕ) (trees : Trees) : Type 0 where
  pub written : (table : TableName) → turn_of table < count → IsTableIn new table (trees (tree_number table))
  pub left : (table : TableName) → count ≤ turn_of table → IsTableSoFar old table (trees (tree_number table))

-- so it is within a transaction, and the database answers
pub record IsUnderWay (old new : State) (count : ℕ) (d : sqlite.State) : Type 0 where
  pub ready : IsReady d
  pub midway : IsMidway old new count d.now.trees

-- A call that ends where so many tables are written. It commits nothing, and a crash leaves nothing new.
pub record Goes (old new : State) (count : ℕ) (d e : sqlite.State) (r : Result (Unit {0}) TableFault) : Type 0 where
  pub under_way : HasCleanDisk e → OnOk r (IsUnderWay old new count e)
  pub commit : HasCleanDisk e → KeepsCommit d e
  pub fault : IfErr r IsOfMemoryOrStore
  pub crash : Survives d e (λ _. ⊥)

-- ---- what is written

module _ {R : Type 0} (row_from : List Column → Option R) (columns_of : R → List Column) (key_of : R → List ℕ)
    (digits : ℕ → List ℕ) where
  -- the sheet has the rows of this table in the two states, as it was before and as it is now, and the table takes them
  pub record IsSheetIn (old new : State) (table : TableName) (sheet : Rows R) : Type 0 where
    pub suits : Suits columns_of key_of digits table
    pub own : StandUnderKeys key_of (now_of sheet) × StandUnderKeys key_of sheet.before
    pub small : AreSmall columns_of (now_of sheet) × AreSmall columns_of sheet.before
    pub stays : AreDropped table ⊎ StayThere sheet.before (now_of sheet)
    pub was : (tree : List Row) → IsTableSoFar old table tree → IsTableOf row_from columns_of table tree sheet.before
    pub is : (tree : List Row) → IsTableOf row_from columns_of table tree (now_of sheet) → IsTableIn new table tree

-- tables may become those of the new state: both are sound, no row goes that the tables keep, and the numbers fit
pub record MayFollow (old new : State) : Type 0 where
  pub before : IsSoundState old
  pub after : IsSoundState new
  pub stays : AllStay old new
  pub small_before : HasSmallRows old
  pub small_after : HasSmallRows new
  pub counted : All IsSmall (meta_columns (meta_of new))
