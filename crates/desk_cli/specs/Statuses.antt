-- The status that the program ends with.
use Rattle.std.specs.Prelude.{ℕ, true, false, Option, Some, None}
use Rattle.desk_core.specs.declared.end.RunEnd.{RunEnd}
use Rattle.desk_core.specs.declared.end.RunEnd.TheVariants.{Done, ReadFailed, WriteFailed, Memory, Store}
use Rattle.desk_cli.specs.declared.database.FileFault.{FileFault}
use Rattle.desk_cli.specs.declared.database.FileFault.TheVariants as file
use Rattle.desk_cli.specs.declared.task.Task.{Task}
use Rattle.desk_cli.specs.declared.task.Task.TheVariants as task

-- after a run that ended so
abbrev pub status_of : RunEnd → ℕ
status_of (Done true) = 0
status_of (Done false) = 1
status_of ReadFailed = 3
status_of WriteFailed = 3
status_of Memory = 4
status_of Store = 3

-- where there is no desk
abbrev pub status_of_fault : FileFault → ℕ
status_of_fault file.Memory = 4
status_of_fault _ = 3

-- at once, unless the words ask for a desk
abbrev pub early_status : Task → Option ℕ
early_status (task.Run file how) = None
early_status (task.Look file shown) = None
early_status (task.Migrate file) = None
early_status (task.Import file rows) = None
early_status (task.Sheet file told) = None
early_status (task.Lines told path) = None
early_status (task.Serve file how) = None
early_status (task.At port token asked) = None
early_status (task.Guide topic) = Some 0
early_status (task.Help e) = Some 0
early_status (task.Wrong e) = Some 2
early_status task.Unreadable = Some 2
early_status task.Memory = Some 4
