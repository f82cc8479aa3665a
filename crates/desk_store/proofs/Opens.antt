-- A database that is opened and read holds the books that were read.
use Rattle.std.proofs.Common.{◌≡◌, IsTrue, Ok, sym, ap, subst, ◌∙◌}
use Rattle.sqlite.specs.Effect.{Database}
use Rattle.sqlite.specs.Held.{Held, state}
use Rattle.sqlite.specs.State as sqlite
use Rattle.sqlite.specs.State.{HasCleanDisk, IsUnchanged}
use Rattle.sqlite.specs.Tree.{Trees}
use Rattle.sqlite_trees.specs.declared.store.Store.{Ghosts}
use Rattle.desk_core.specs.Machine.{State}
use Rattle.desk_core.specs.ShopView.{state_of}
use Rattle.desk_core.specs.declared.shop.Shop.{Shop}
use Rattle.desk_store.specs.StateTables.{HoldsBooks, TablesAre}
use Rattle.desk_store.specs.Loading.{AreBooksOf, Reads}
use Rattle.desk_store.specs.declared.fault.OpenFault.{OpenFault}
use Rattle.desk_store.proofs.Readings.{has-read, still-tables, was-clean}
use Rattle.table_store.specs.Opened.{IsAtRest}
use Rattle.table_store.specs.Values.{HasTables}

-- a database at rest that is only read stays at rest
still-rests : (a b : sqlite.State) → IsUnchanged a b → IsAtRest a → IsAtRest b
still-rests a b same rest = record {
  is_open = same.0.is_open;
  free = same.0.mode ∙ rest.free;
  saved = same.0.committed_is ∙ rest.saved ∙ sym same.0.now_is;
}

module _ {S : Type 0} (g : Ghosts S)
    (settled : (s : S) (db : Trees) → IsTrue (g.view s).is_open → g.recovers s db → db ≡ (g.view s).committed) where
  -- books that stand in a database at rest are all that a crash leaves
  rests-books : (s : State) (h : Held S) → IsAtRest (state g h) → HasTables (state g h)
      → TablesAre s (state g h).now.trees → HoldsBooks s (state g h)
  rests-books s h rest tables books = record {
    rest = rest;
    tables = tables;
    books = books;
    left = λ trees may.
        subst (TablesAre s)
        (sym (settled h.store trees rest.is_open may ∙ ap (λ (d : Database). d.trees) rest.saved)) books;
  }

  module _ (Why : Trees → OpenFault → Type 0) (opened loaded : Held S) (shop : Shop)
      (read : Reads AreBooksOf Why (state g opened) (state g loaded) (Ok shop)) where
    -- the books of a shop that was read from a database at rest
    pub opened-books : (HasCleanDisk (state g opened) → IsAtRest (state g opened))
        → (HasCleanDisk (state g opened) → HasTables (state g opened))
        → HasCleanDisk (state g loaded) → HoldsBooks (state_of shop) (state g loaded)
    opened-books rest tables clean =
        let past = was-clean (state g opened) (state g loaded) _ read.crash clean in
        let same = read.same clean in
        rests-books (state_of shop) loaded (still-rests (state g opened) (state g loaded) same (rest past))
        (still-tables (state g opened) (state g loaded)
        (has-read AreBooksOf Why (state g opened) (state g loaded) shop read) tables clean)
        (subst (λ (d : Database). TablesAre (state_of shop) d.trees) (sym same.0.now_is) (read.gives clean).tables)
