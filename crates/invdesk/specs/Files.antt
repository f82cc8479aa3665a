-- The file of a desk: how the desk is taken from it, or why there is none, and what it holds once it is closed.
use Rattle.std.specs.Prelude.{◌≡◌, ◌⊎◌, Bool, true, false, None, Result, Ok, Err, IfOk, IsTrue, MatchResult}
use Rattle.sqlite_disk.specs.declared.Disk as disk
use Rattle.sqlite_disk.specs.declared.Files.{Files}
use Rattle.sqlite_trees.specs.declared.store.Store.{Ghosts}
use Rattle.sqlite_store.specs.declared.store.FileStore.{FileStore}
use Rattle.sqlite_wal.specs.Reads.{AreClean}
use Rattle.sqlite.specs.Files.{over_files}
use Rattle.sqlite.specs.Held.{Held, state}
use Rattle.sqlite.specs.State.{HasCleanDisk}
use Rattle.sqlite.specs.Tree.{Trees}
use Rattle.sqlite_trees.specs.View.{IsClean}
use Rattle.sqlite.specs.declared.error.Error.{Error}
use Rattle.desk_core.specs.Books.{AreInOrder}
use Rattle.desk_core.specs.Machine.{IsSoundState, State}
use Rattle.desk_core.specs.ShopView.{state_of}
use Rattle.desk_store.specs.Migrating.{EitherAre}
use Rattle.desk_store.specs.StateTables.{TablesAre}
use Rattle.desk_store.specs.declared.desk.Desk.{Desk}
use Rattle.desk_app.specs.Closed.{KeepAlone}
use Rattle.desk_core.specs.Empty.{IsEmpty}
use Rattle.desk_cli.specs.FileFaults.{IsBare, IsOfMaking, IsOfOpening, MayBeMoved, MayBeNew, TellsUnmoved, TellsWhy}
use Rattle.desk_cli.specs.declared.database.FileFault.{FileFault}
use Rattle.desk_cli.specs.declared.database.FileFault.TheVariants as file_fault
use Rattle.desk_cli.specs.declared.look.Content.{Content}
use Rattle.desk_cli.specs.declared.look.Content.TheVariants as content
use Rattle.desk_core.specs.declared.end.RunEnd.{RunEnd}
use Rattle.desk_core.specs.declared.end.RunEnd.TheVariants.{Store}
use Rattle.desk_cli.specs.declared.task.LookAt.{LookAt}
use Rattle.desk_cli.specs.declared.task.LookAt.TheVariants as look
use Rattle.desk_cli.specs.declared.task.Task.{Task}
use Rattle.desk_cli.specs.declared.task.Task.TheVariants as task
use Rattle.invdesk.specs.Prints.{PrintsOut}
use Rattle.invdesk.specs.Works.{Does}

module _ {S : Type 0} (g : Ghosts S) where
  -- the desk is in the one sound state that the tables of this database hold; where the database had nothing, in the
  -- empty state
  pub record IsTakenFrom (database : Held S) (desk : Desk S) : Type 0 where
    pub new : IsBare (state g database) → IsEmpty (state_of desk.shop)
    pub found : ¬ IsBare (state g database) → HasCleanDisk (state g desk.conn)
        → TablesAre (state_of desk.shop) (state g database).committed.trees
    pub one : ¬ IsBare (state g database) → HasCleanDisk (state g desk.conn) → (s : State) → IsSoundState s
        → TablesAre s (state g database).committed.trees → s ≡ state_of desk.shop

  -- the desk is in the one sound state that the tables of this database hold, of this version or of version 1
  pub record IsMovedFrom (database : Held S) (desk : Desk S) : Type 0 where
    pub found : HasCleanDisk (state g desk.conn) → EitherAre (state_of desk.shop) (state g database).committed.trees
    pub one : HasCleanDisk (state g desk.conn) → (s : State) → IsSoundState s
        → EitherAre s (state g database).committed.trees → s ≡ state_of desk.shop

  -- Which file there is, and what it holds, is known to no clause: so it is some database.
  abbrev pub IsTaken : Desk S → Type 0
  IsTaken desk = (database : Held S) × IsTakenFrom database desk

  abbrev pub IsMoved : Desk S → Type 0
  IsMoved desk = (database : Held S) × IsMovedFrom database desk

  -- the desk comes from a file by what the words ask for
  abbrev pub Comes : Task → Desk S → Type 0
  Comes (task.Migrate file) desk = IsMoved desk
  Comes _ desk = IsTaken desk

  -- For this reason the database has no desk, and this is left of it: what it had, and where it had nothing, and a new desk
  -- couldn't be made, maybe that desk.
  pub record IsRefused (database : Held S) (fault : FileFault) (left : S) : Type 0 where
    pub unmade : IsBare (state g database) → IsOfMaking fault
    pub why : ¬ IsBare (state g database) → IsClean (g.view left) → TellsWhy (state g database) fault
    pub kept : ¬ IsBare (state g database) → IsClean (g.view left) → IsTrue (g.view left).is_open
        → (g.view left).trees ≡ (state g database).committed.trees
    pub crash : IsClean (g.view left) → (trees : Trees) → g.recovers left trees
        → (state g database).may_leave trees ⊎ (IsBare (state g database) × MayBeNew trees fault)

  -- For this reason it can't be brought along, and this is left of it: what it had, and where the database failed maybe the
  -- same books in this version's tables.
  pub record IsRefusedMove (database : Held S) (fault : FileFault) (left : S) : Type 0 where
    pub why : IsClean (g.view left) → TellsUnmoved (state g database) fault
    pub kept : IsClean (g.view left) → IsTrue (g.view left).is_open
        → (g.view left).trees ≡ (state g database).committed.trees
    pub crash : IsClean (g.view left) → (trees : Trees) → g.recovers left trees
        → (state g database).may_leave trees ⊎ MayBeMoved (state g database).committed.trees trees fault

-- whether a look finds a database where this was found; it may have to be there
abbrev pub finds_database : Content → Bool → Result Bool FileFault
finds_database content.Database must_be_there = Ok true
finds_database content.Foreign must_be_there = Err file_fault.NoDatabase
finds_database content.Absent true = Err file_fault.Missing
finds_database content.Absent false = Ok false
finds_database content.Empty must_be_there = Ok false

-- what is brought along is there, and has something
abbrev pub can_be_migrated : Content → Result Bool FileFault
can_be_migrated content.Database = Ok true
can_be_migrated content.Foreign = Err file_fault.NoDatabase
can_be_migrated content.Absent = Err file_fault.Missing
can_be_migrated content.Empty = Err file_fault.OtherTables

-- a list and a dump are of a file that is there
abbrev pub is_to_be_looked_at : LookAt → Content → Result Bool FileFault
is_to_be_looked_at (look.Report name of) found = finds_database found false
is_to_be_looked_at (look.Export table) found = finds_database found false
is_to_be_looked_at look.Dump found = finds_database found true
is_to_be_looked_at (look.Show list csv) found = finds_database found true
is_to_be_looked_at (look.Low levels csv) found = finds_database found true

-- Whether the words open a file in which this was found, or why it is refused. Those that neither look nor bring along
-- open whatever is there.
abbrev pub is_to_be_opened : Task → Content → Result Bool FileFault
is_to_be_opened (task.Look file shown) found = is_to_be_looked_at shown found
is_to_be_opened (task.Migrate file) found = can_be_migrated found
is_to_be_opened it found = Ok true

-- What is looked at was printed of books that are empty.
pub record LooksAtNone (shown : LookAt) (end : RunEnd) : Type 0 where
  pub books : State
  pub empty : IsEmpty books
  pub prints : PrintsOut shown books end

-- so what the words ask for was done, that only look
abbrev pub DoesByLook : Task → RunEnd → Type 0
DoesByLook (task.Look file shown) end = LooksAtNone shown end
DoesByLook _ end = ⊥

-- a file has some database that has no desk, for this reason
abbrev pub HasNone : {D : Type 0} → disk.Ghosts D → FileFault → Type 0
HasNone {D} g fault = (database : Held (FileStore D g)) × (left : FileStore D g) × IsRefused over_files database fault left

-- it has one that can't be brought along
abbrev pub HasUnmoved : {D : Type 0} → disk.Ghosts D → FileFault → Type 0
HasUnmoved {D} g fault =
    (database : Held (FileStore D g)) × (left : FileStore D g) × IsRefusedMove over_files database fault left

-- by what the words ask for
abbrev pub HasNoneFor : {D : Type 0} → disk.Ghosts D → Task → FileFault → Type 0
HasNoneFor g (task.Migrate file) fault = HasUnmoved g fault
HasNoneFor g _ fault = HasNone g fault

-- No desk came from a file: it wasn't opened, or there was no memory, or it has none.
abbrev pub NoneComes : {D : Type 0} → disk.Ghosts D → Task → FileFault → Type 0
NoneComes g it fault = IsOfOpening fault ⊎ HasNoneFor g it fault

-- what closing hands back: the files, or why they weren't closed, and the database
abbrev pub Left : {D : Type 0} → disk.Ghosts D → Type 0
Left {D} g = Result (Files D) (Error × FileStore D g)

module _ {D : Type 0} {g : disk.Ghosts D} where
  -- The desk was closed after work that ended so, and this became of both: where the file couldn't be closed, that is
  -- the end. Of a desk that no fault had closed the database file holds the state, with its log and without it.
  pub record IsClosedAfter (desk : Desk (FileStore D g)) (worked end : RunEnd) (left : Left g) : Type 0 where
    pub told : MatchResult left (λ _. end ≡ worked) (λ _. end ≡ Store)
    pub alone : desk.failed ≡ None → IfOk left (λ files.
        AreClean g files.log files.db → KeepAlone g (state_of desk.shop) files)

  -- what the words ask for was done with the desk of a file, which was closed then
  pub record ActsOnFile (it : Task) (end : RunEnd) (left : Left g) : Type 0 where
    pub before : Desk (FileStore D g)
    pub after : Desk (FileStore D g)
    pub worked : RunEnd
    pub is_open : before.failed ≡ None
    pub comes : Comes over_files it before
    pub does : Does over_files it before after worked
    pub in_order : AreInOrder (state_of after.shop)
    pub closed : IsClosedAfter after worked end left

-- what closing handed back is let go of once it is known
abbrev pub IsClosedWith : {D : Type 0} → (g : disk.Ghosts D) → Desk (FileStore D g) → RunEnd → RunEnd → Type 0
IsClosedWith g desk worked end = (left : Left g) × IsClosedAfter desk worked end left

abbrev pub Acts : {D : Type 0} → disk.Ghosts D → Task → RunEnd → Type 0
Acts g it end = (left : Left g) × ActsOnFile it end left

-- How work on a file ended in which this was found, or why there was none: it was opened, or what the words ask for was
-- printed of empty books, or it was refused, each where what was found tells so.
abbrev pub EndsByFound : {D : Type 0} → disk.Ghosts D → Task → Content → Result RunEnd FileFault → Type 0
EndsByFound g it found (Ok end) =
    ((is_to_be_opened it found ≡ Ok true) × Acts g it end)
    ⊎ ((is_to_be_opened it found ≡ Ok false) × DoesByLook it end)
EndsByFound g it found (Err fault) = (is_to_be_opened it found ≡ Err fault) ⊎ NoneComes g it fault

-- What is found in a file is known to no clause: so it is something.
abbrev pub EndsOnFile : {D : Type 0} → disk.Ghosts D → Task → Result RunEnd FileFault → Type 0
EndsOnFile g it ended = (found : Content) × EndsByFound g it found ended
