-- The tables of version 1 become those of this version.
use Rattle.std.specs.Prelude.{◌≡◌, ◌≢◌, ◌⊎◌, ◌<◌, ◌^◌, List, [], ◌∷◌, Option, None, Result, Ok, Err}
use Rattle.std.specs.FinMap.{empty}
use Rattle.sqlite.specs.State as sqlite
use Rattle.sqlite.specs.Tree.{Trees}
use Rattle.desk_core.specs.Machine.{IsSoundState, State}
use Rattle.desk_core.specs.ShopView.{state_of}
use Rattle.desk_core.specs.declared.shop.Shop.{Shop}
use Rattle.desk_store.specs.MetaColumns.{meta_columns, meta_from, meta_of, only}
use Rattle.desk_store.specs.Opening.{AreForeign, AreNoBooks, IsDamage, IsOld}
use Rattle.desk_store.specs.StateTables.{IsTableIn, TablesAre}
use Rattle.desk_store.specs.declared.fault.OpenFault.{OpenFault}
use Rattle.desk_store.specs.declared.fault.OpenFault.TheVariants.{Memory, Store, Foreign, Old, Damaged}
use Rattle.desk_store.specs.declared.meta.MetaRow.{MetaRow}
use Rattle.table_store.specs.Schema.{tree_number}
use Rattle.table_store.specs.Written.{IsReady, IsTableOf}
use Rattle.table_store.specs.declared.name.TableName.{TableName}
use Rattle.table_store.specs.declared.name.TableName.TheVariants.{Meta, Spent}

-- ---- what the tables of version 1 hold

-- the row that a state has in them
abbrev pub old_meta_of : State → MetaRow
old_meta_of s = record (meta_of s) { version = 1 }

-- they hold this state, of which nothing is spent
pub record OldTablesAre (s : State) (trees : Trees) : Type 0 where
  pub meta : IsTableOf meta_from meta_columns Meta (trees (tree_number Meta)) (only (old_meta_of s))
  pub others : (table : TableName) → table ≢ Meta → table ≢ Spent → IsTableIn s table (trees (tree_number table))
  pub unspent : s.spent ≡ empty

-- these tables, of this version or of version 1, hold this state
abbrev pub EitherAre : State → Trees → Type 0
EitherAre s trees = TablesAre s trees ⊎ OldTablesAre s trees

-- they hold the shop's state, and no other sound one
pub record AreBooksOfEither (trees : Trees) (shop : Shop) : Type 0 where
  pub tables : EitherAre (state_of shop) trees
  pub one : (s : State) → IsSoundState s → EitherAre s trees → s ≡ state_of shop

-- with nothing spent they are the tables of no sound state
abbrev pub AreNoOldBooks : Trees → Type 0
AreNoOldBooks trees = (s : State) → IsSoundState s → ¬ OldTablesAre s trees

-- ---- why there is no desk

-- what it tells of tables of version 1: they are damaged, or `meta` isn't theirs
abbrev pub WhyNotOld : Trees → OpenFault → Type 0
WhyNotOld trees Memory = Unit {0}
WhyNotOld trees (Store failed) = Unit {0}
WhyNotOld trees Foreign = AreForeign trees
WhyNotOld trees Old = ⊥
WhyNotOld trees (Damaged told) = IsOld trees × AreNoOldBooks trees × IsDamage trees told

-- what it tells of tables of either version
abbrev pub WhyNotMigrated : Trees → OpenFault → Type 0
WhyNotMigrated trees Memory = Unit {0}
WhyNotMigrated trees (Store failed) = Unit {0}
WhyNotMigrated trees Foreign = AreForeign trees
WhyNotMigrated trees Old = ⊥
WhyNotMigrated trees (Damaged told) =
    IsDamage trees told × ¬ AreForeign trees
    × ((AreNoBooks trees × ¬ IsOld trees) ⊎ (AreNoOldBooks trees × IsOld trees))

-- ---- the way from version 1

-- the tree of `meta` is the table of this row alone, which has the key 1, in the tables of version 1
pub record IsOldRow (trees : Trees) (row : MetaRow) : Type 0 where
  pub table : IsTableOf meta_from meta_columns Meta (trees (tree_number Meta)) (only row)
  pub one : row.one ≡ 1
  pub version : row.version ≡ 1
  pub old : IsOld trees

-- the row's numbers are those that a file takes
pub record FitFile (row : MetaRow) : Type 0 where
  pub next : row.next < 2 ^ 63
  pub entries : row.entries < 2 ^ 63
  pub max_numbers : row.max_numbers < 2 ^ 63
  pub max_entries : row.max_entries < 2 ^ 63

-- why these rows of `meta` are no such row
abbrev pub IsNoOldRow : List MetaRow → OpenFault → Type 0
IsNoOldRow rows (Damaged None) = (row : MetaRow) → row.one ≡ 1 → FitFile row → rows ≢ row ∷ []
IsNoOldRow rows _ = ⊥

-- beside the row of this version, and `spent`, which has no row, the tables are those that there were
pub record AreSecond (row : MetaRow) (before trees : Trees) : Type 0 where
  pub meta : IsTableOf meta_from meta_columns Meta (trees (tree_number Meta)) (only (record row { version = 2 }))
  pub spent : trees (tree_number Spent) ≡ []
  pub others : (table : TableName) → table ≢ Meta → table ≢ Spent
      → trees (tree_number table) ≡ before (tree_number table)

-- within a transaction the tables hold the shop's state, which those of version 1 held before
pub record IsBroughtUp (before : Trees) (shop : Shop) (d : sqlite.State) : Type 0 where
  pub ready : IsReady d
  pub tables : TablesAre (state_of shop) d.now.trees
  pub old : OldTablesAre (state_of shop) before
  pub one : (s : State) → IsSoundState s → OldTablesAre s before → s ≡ state_of shop

-- the tables of this version hold the state that those of version 1 held before
abbrev pub AreBroughtUp : Trees → Trees → Type 0
AreBroughtUp before trees = (s : State) × IsSoundState s × OldTablesAre s before × TablesAre s trees

-- what a crash leaves beside the tables as they were, where the database failed: those of the same state
abbrev pub MayBeMigrated : Trees → Trees → OpenFault → Type 0
MayBeMigrated before trees (Store failed) = AreBroughtUp before trees
MayBeMigrated before trees _ = ⊥

-- the same where there is a shop: its tables
abbrev pub MayLeave : Trees → Result Shop OpenFault → Trees → Type 0
MayLeave before (Ok shop) trees = TablesAre (state_of shop) trees
MayLeave before (Err fault) trees = MayBeMigrated before trees fault
