-- What always holds of a desk.
use Rattle.std.specs.Prelude.{◌≡◌, None, false}
use Rattle.sqlite_trees.specs.declared.store.Store.{Ghosts}
use Rattle.sqlite.specs.Held.{state}
use Rattle.sqlite.specs.State.{HasCleanDisk}
use Rattle.desk_core.specs.Machine.{IsSoundState}
use Rattle.desk_core.specs.ShopView.{state_of}
use Rattle.desk_store.specs.StateTables.{HoldsBooks}
use Rattle.desk_store.specs.declared.desk.Desk.{Desk}

-- its shop is sound, and the database is in no transaction; where no fault of the database has closed the desk, the
-- database holds the shop's state
pub record IsDesk {S : Type 0} (g : Ghosts S) (d : Desk S) : Type 0 where
  pub sound : IsSoundState (state_of d.shop)
  pub free : HasCleanDisk (state g d.conn) → (state g d.conn).in_transaction ≡ false
  pub books : d.failed ≡ None → HasCleanDisk (state g d.conn) → HoldsBooks (state_of d.shop) (state g d.conn)
