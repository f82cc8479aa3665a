-- What ends a transaction, and what it leaves.
use Rattle.std.specs.Prelude.{◌≡◌, ◌⊎◌, true, false, IsTrue}
use Rattle.sqlite.specs.State.{State, Fails, IsRolledBack, IsUnchanged, Shows}
use Rattle.table_store.specs.declared.fault.Cause.{Cause}
use Rattle.table_store.specs.declared.fault.Cause.TheVariants as cause
use Rattle.table_store.specs.declared.fault.TableFault.{TableFault}
use Rattle.table_store.specs.declared.fault.TableFault.TheVariants.{Memory, Store, NoTable, BadRow}

-- it is the database's error, with which it failed and undid the transaction
abbrev pub StopsBy : State → State → Cause → Type 0
StopsBy old new (cause.Database error) = Fails old new ⊥ error
StopsBy old new _ = ⊥

-- the database failed with this error, and the transaction is undone
abbrev pub Stops : State → State → TableFault → Type 0
Stops old new (Store failed) = StopsBy old new failed.cause
Stops old new _ = ⊥

-- no transaction is open, and the tables are those of the last commit
pub record IsBack (old new : State) : Type 0 where
  pub was_open : IsTrue new.is_open → IsTrue old.is_open
  pub undone : IsTrue new.is_open → (new.now ≡ old.committed) × (new.committed ≡ old.committed)
  pub autocommit : new.in_transaction ≡ false

-- the transaction is still open, and its tables may have changed
abbrev pub StaysInside : State → State → Type 0
StaysInside old new = Shows old new new.now old.committed true

-- what a fault leaves of a call that asks the database once: one of the database may have undone the transaction, and
-- before any other nothing was asked
abbrev pub MayUndo : State → State → TableFault → Type 0
MayUndo old new (Store failed) = IsUnchanged old new ⊎ IsRolledBack old new
MayUndo old new _ = IsUnchanged old new

-- the fault is one of the database
abbrev pub IsOfStore : TableFault → Type 0
IsOfStore (Store failed) = Unit {0}
IsOfStore _ = ⊥

-- out of memory, or a fault of the database
abbrev pub IsOfMemoryOrStore : TableFault → Type 0
IsOfMemoryOrStore Memory = Unit {0}
IsOfMemoryOrStore (Store failed) = Unit {0}
IsOfMemoryOrStore _ = ⊥

-- a row of a table is none of the machine's
abbrev pub IsBadRow : TableFault → Type 0
IsBadRow (BadRow failed) = Unit {0}
IsBadRow _ = ⊥

-- out of memory, a fault of the database, or a row that is none of the machine's
abbrev pub IsOfReading : TableFault → Type 0
IsOfReading (NoTable failed) = ⊥
IsOfReading _ = Unit {0}
