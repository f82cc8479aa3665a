-- Why the file has no desk.
use Rattle.std.specs.Prelude.{◌≡◌, codes, ◌++◌, ℕ, List, Option, None, Some, option_map}
use Rattle.sqlite.specs.State.{State}
use Rattle.sqlite.specs.declared.error.Error.{Error}
use Rattle.sqlite.specs.declared.error.Error.TheVariants.{SqliteFailure}
use Rattle.sqlite.specs.declared.error.ErrorCode.TheVariants as code
use Rattle.sqlite.specs.Tree.{Trees}
use Rattle.std.specs.declared.io.Error.{Error as DeviceError}
use Rattle.std.specs.declared.io.ErrorKind.{ErrorKind}
use Rattle.std.specs.declared.io.ErrorKind.TheVariants as kind
use Rattle.desk_core.specs.Machine as machine
use Rattle.desk_store.specs.StateTables.{TablesAre}
use Rattle.table_store.specs.Schema.{IsOwn, schema_up_to}
use Rattle.desk_store.specs.Opening.{open_fault_text, WhyNot}
use Rattle.desk_store.specs.Migrating.{MayBeMigrated, WhyNotMigrated}
use Rattle.desk_store.specs.declared.fault.OpenFault.{OpenFault}
use Rattle.desk_store.specs.declared.fault.OpenFault.TheVariants as open_fault
use Rattle.desk_cli.specs.declared.database.FileFault.{FileFault}
use Rattle.desk_cli.specs.declared.database.FileFault.TheVariants.{Memory, Missing, NoFile, NoFolder, NotAllowed}
use Rattle.desk_cli.specs.declared.database.FileFault.TheVariants.{Device, InUse, NoDatabase, Database}
use Rattle.desk_cli.specs.declared.database.FileFault.TheVariants.{OtherTables, OtherVersion, Old, Desk}
use Rattle.desk_cli.specs.declared.database.FileFault.TheVariants.{KeptName, DanglingLink, SecondName, HotJournal}
use Rattle.desk_cli.specs.declared.database.FileFault.TheVariants.{LinkedLog, NoLog, SecondLog, ForeignLog, NotMade}
use Rattle.desk_cli.specs.declared.database.FaultyFile.{FaultyFile}
use Rattle.desk_core.specs.Empty.{IsEmpty}

-- the database has nothing in it: no table, no index and no view
abbrev pub IsBare : State → Type 0
IsBare d = d.now.schema ≡ schema_up_to 0

-- a fault of the desk, as one of the file: that memory ran out and that the tables are old is told alike, and tables
-- that are a desk's and Foreign are of another version
abbrev pub file_fault_of : OpenFault → FileFault
file_fault_of open_fault.Memory = Memory
file_fault_of open_fault.Foreign = OtherVersion
file_fault_of open_fault.Old = Old
file_fault_of fault = Desk fault

-- what an open of the database answers, as a fault of the file
abbrev pub file_fault_at : Error → FileFault
file_fault_at (SqliteFailure code.OutOfMemory) = Memory
file_fault_at (SqliteFailure code.DatabaseBusy) = InUse
file_fault_at (SqliteFailure code.NotADatabase) = NoDatabase
file_fault_at (SqliteFailure code.DatabaseCorrupt) = NoDatabase
file_fault_at error = Database error

-- what a device answers of a path, as a fault of the file
abbrev pub file_fault_by : ErrorKind → DeviceError → FileFault
file_fault_by kind.OutOfMemory error = Memory
file_fault_by kind.IsADirectory error = NoFile
file_fault_by kind.NotFound error = NoFolder
file_fault_by kind.NotADirectory error = NoFolder
file_fault_by kind.PermissionDenied error = NotAllowed
file_fault_by kind.ReadOnlyFilesystem error = NotAllowed
file_fault_by _ error = Device error

-- a fault that may be told before a database is opened, or in the place of that; memory may run out then, too
abbrev pub IsOfOpening : FileFault → Type 0
IsOfOpening OtherTables = ⊥
IsOfOpening OtherVersion = ⊥
IsOfOpening Old = ⊥
IsOfOpening (Desk fault) = ⊥
IsOfOpening _ = Unit {0}

-- a fault that the making of a desk may end with
abbrev pub IsOfMaking : FileFault → Type 0
IsOfMaking Memory = Unit {0}
IsOfMaking (Desk (open_fault.Store failed)) = Unit {0}
IsOfMaking _ = ⊥

-- what a crash leaves beside the database as it was: a new desk's tables, where the database failed
abbrev pub MayBeNew : Trees → FileFault → Type 0
MayBeNew trees (Desk (open_fault.Store failed)) = (s : machine.State) × IsEmpty s × TablesAre s trees
MayBeNew trees _ = ⊥

-- what it tells of a database that isn't bare and has no desk
abbrev pub TellsWhy : State → FileFault → Type 0
TellsWhy d Memory = Unit {0}
TellsWhy d OtherTables = ¬ IsOwn d.now.schema
TellsWhy d OtherVersion = IsOwn d.now.schema × WhyNot d.committed.trees open_fault.Foreign
TellsWhy d Old = IsOwn d.now.schema × WhyNot d.committed.trees open_fault.Old
TellsWhy d (Desk fault) = IsOwn d.now.schema × WhyNot d.committed.trees fault
TellsWhy d _ = ⊥

-- so it is where tables of version 1 are made those of this version
abbrev pub TellsUnmoved : State → FileFault → Type 0
TellsUnmoved d Memory = Unit {0}
TellsUnmoved d OtherTables = ¬ IsOwn d.now.schema
TellsUnmoved d OtherVersion = IsOwn d.now.schema × WhyNotMigrated d.committed.trees open_fault.Foreign
TellsUnmoved d (Desk fault) = IsOwn d.now.schema × WhyNotMigrated d.committed.trees fault
TellsUnmoved d _ = ⊥

-- what a crash leaves beside the database as it was: this version's tables of the same state, where the database failed
abbrev pub MayBeMoved : Trees → Trees → FileFault → Type 0
MayBeMoved before trees (Desk fault) = MayBeMigrated before trees fault
MayBeMoved before trees _ = ⊥

-- a fault as text; of what a device or the database answers their libraries state none
abbrev pub file_fault_text : FileFault → Option (List ℕ)
file_fault_text Memory = Some (codes "no memory for the desk")
file_fault_text Missing = Some (codes "there is no such file")
file_fault_text NoFile = Some (codes "it is no file, but a folder or a device")
file_fault_text NoFolder = Some (codes "its folder isn't there")
file_fault_text NotAllowed = Some (codes "the file or its folder may not be read and written")
file_fault_text KeptName = Some (codes "the database keeps such a name for itself: write ./ before it")
file_fault_text DanglingLink = Some (codes "it is a link to a file that isn't there")
file_fault_text SecondName = Some (codes "it has a second name, and a workshop may have one alone")
file_fault_text HotJournal = Some (codes
    "beside it lies the journal of a change that another program didn't end: open it with sqlite3 first")
file_fault_text LinkedLog = Some (codes "a link lies where its log is to be")
file_fault_text NoLog = Some (codes "a folder or a device lies where its log is to be")
file_fault_text SecondLog = Some (codes "its log has a second name")
file_fault_text ForeignLog = Some (codes "another user owns its log, which has the file's name and -wal behind it")
file_fault_text NotMade = Some (codes "it, or its log, can't be made in its folder")
file_fault_text (Device error) = None
file_fault_text InUse = Some (codes
    "another program has it open; where that serves it, say --at PORT in the place of --db")
file_fault_text NoDatabase = Some (codes "it is no database, or a damaged one")
file_fault_text (Database error) = None
file_fault_text OtherTables = Some (codes "it is a database, and no workshop's")
file_fault_text OtherVersion = Some (codes "it is a workshop's of another version")
file_fault_text Old =
    Some (codes "it was written by an earlier version of this program; `invdesk migrate --db FILE` brings it along")
file_fault_text (Desk fault) = open_fault_text fault

-- the path, and then why
abbrev pub faulty_file_text : FaultyFile → Option (List ℕ)
faulty_file_text faulty = option_map (λ text. faulty.path.now ++ (codes ": " ++ text)) (file_fault_text faulty.fault)
