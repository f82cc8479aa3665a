-- A closed file holds the books.
use Rattle.std.proofs.Common.{sym, subst}
use Rattle.sqlite.specs.Closing.{IsCopied}
use Rattle.sqlite.specs.Effect.{Database}
use Rattle.sqlite.specs.Files.{file_state}
use Rattle.sqlite.specs.Held.{Held}
use Rattle.sqlite.specs.State.{HasCleanDisk}
use Rattle.sqlite_disk.specs.declared.Disk.{Ghosts}
use Rattle.sqlite_disk.specs.declared.Files.{Files}
use Rattle.sqlite_store.specs.declared.store.FileStore.{FileStore}
use Rattle.desk_core.specs.Machine.{State}
use Rattle.desk_store.specs.StateTables.{HoldsBooks, TablesAre}
use Rattle.desk_app.specs.Closed.{KeepAlone}

-- the last commit that was copied is the books that the database held
pub kept_alone : {D : Type 0} {g : Ghosts D} (s : State) (c : Held (FileStore D g)) (files : Files D)
    → (HasCleanDisk (file_state c) → HoldsBooks s (file_state c)) → IsCopied c files
    → KeepAlone g s files
kept_alone {D} {g} s c files books copied =
    let held = books copied.was_clean in
    let tables : TablesAre s (file_state c).committed.trees =
    subst (λ (d : Database). TablesAre s d.trees) (sym held.rest.saved) held.books in
    record {
      seen = record { trees = (file_state c).committed.trees; tables = tables; held = copied.seen };
      left =
          λ image may. record { trees = (file_state c).committed.trees; tables = tables; held = copied.left image may };
    }
