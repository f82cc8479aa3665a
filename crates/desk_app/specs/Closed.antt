-- What a file holds once its desk is closed.
use Rattle.sqlite_disk.specs.declared.Disk.{Ghosts}
use Rattle.sqlite_disk.specs.declared.Files.{Files}
use Rattle.sqlite_wal.specs.Recovery.{Image}
use Rattle.sqlite_wal.specs.Files.{outcomes}
use Rattle.sqlite.specs.Closing.{HoldsAlone}
use Rattle.sqlite.specs.Files.{image_of}
use Rattle.sqlite.specs.Tree.{Trees}
use Rattle.desk_core.specs.Machine.{State}
use Rattle.desk_store.specs.StateTables.{TablesAre}

-- with its log and without it, the database file holds the tables of this state
pub record HoldsTables (s : State) (image : Image) : Type 0 where
  pub trees : Trees
  pub tables : TablesAre s trees
  pub held : HoldsAlone image trees

-- so it is of the files as they read now, and as a crash leaves them
pub record KeepAlone {D : Type 0} (g : Ghosts D) (s : State) (files : Files D) : Type 0 where
  pub seen : HoldsTables s (image_of g files)
  pub left : (image : Image) → outcomes g files.log files.db image → HoldsTables s image
