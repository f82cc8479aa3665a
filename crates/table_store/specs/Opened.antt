-- A file whose tables are the desk's, as a connection finds it.
use Rattle.std.specs.Prelude.{◌≡◌, false, IsTrue}
use Rattle.sqlite.specs.State.{State}
use Rattle.sqlite.specs.Schema.{Schema}
use Rattle.sqlite.specs.Tree.{Trees}
use Rattle.sqlite_catalog.specs.Listing.{IsSound}
use Rattle.table_store.specs.Schema.{IsOwn}
use Rattle.table_store.specs.declared.fault.TableFault.{TableFault}
use Rattle.table_store.specs.declared.fault.TableFault.TheVariants.{Memory, Store, NoTable, BadRow}

-- the database answers, and what it shows is what was committed last
pub record IsAtRest (s : State) : Type 0 where
  pub is_open : IsTrue s.is_open
  pub free : s.in_transaction ≡ false
  pub saved : s.committed ≡ s.now

-- the tables list a schema that isn't the desk's, of this version or of version 1
abbrev pub IsForeign : Trees → Type 0
IsForeign trees = (schema : Schema) × IsSound schema trees × ¬ IsOwn schema

-- why tables weren't opened: the database failed, or the tables are none of the desk's
abbrev pub FailsToOpen : Trees → TableFault → Type 0
FailsToOpen trees Memory = ⊥
FailsToOpen trees (Store failed) = Unit {0}
FailsToOpen trees (NoTable failed) = IsForeign trees
FailsToOpen trees (BadRow failed) = ⊥
