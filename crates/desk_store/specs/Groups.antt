-- What a desk shows in the midst of a group of requests, all of which are committed together.
use Rattle.std.specs.Prelude.{◌≡◌, false, None, IsSome, IsTrue}
use Rattle.sqlite.specs.Held.{state}
use Rattle.sqlite.specs.State as sqlite
use Rattle.sqlite.specs.State.{HasCleanDisk}
use Rattle.sqlite_trees.specs.declared.store.Store.{Ghosts}
use Rattle.desk_core.specs.Machine.{IsSoundState, State}
use Rattle.desk_core.specs.ShopView.{state_of}
use Rattle.desk_store.specs.StateTables.{HoldsBooks, TablesAreSoFar}
use Rattle.desk_store.specs.declared.desk.Desk.{Desk}
use Rattle.table_store.specs.Values.{HasTables}

-- the statements see the tables of this state, but that within a transaction the row of the counter may be another's; where
-- no transaction is open, the database holds the state
pub record ShowsBooks (s : State) (d : sqlite.State) : Type 0 where
  pub is_open : IsTrue d.is_open
  pub tables : HasTables d
  pub books : TablesAreSoFar s d.now.trees
  pub held : d.in_transaction ≡ false → HoldsBooks s d

-- its shop is sound; where no fault of the database has closed the desk, the database shows the shop's state, and where
-- one has, no transaction is open
pub record IsGrouping {S : Type 0} (g : Ghosts S) (d : Desk S) : Type 0 where
  pub sound : IsSoundState (state_of d.shop)
  pub free : IsSome d.failed → HasCleanDisk (state g d.conn) → (state g d.conn).in_transaction ≡ false
  pub books : d.failed ≡ None → HasCleanDisk (state g d.conn) → ShowsBooks (state_of d.shop) (state g d.conn)
