-- The list of what has less free than the level that a file says of it.
use Rattle.std.specs.Prelude.{ℕ, List, map, Option, Result, Ok, Err}
use Rattle.desk_core.specs.Machine.{State}
use Rattle.desk_core.specs.Naming.{naming_in}
use Rattle.report_core.specs.Lines.{Lines}
use Rattle.list_core.specs.LowList.{low_list}
use Rattle.list_core.specs.declared.low_list.Level.{Level}
use Rattle.desk_wire.specs.Levels.{Fault, file_levels}
use Rattle.desk_wire.specs.declared.levels.LevelRow.{LevelRow}

-- the level that a record of a file says
abbrev pub level_by : LevelRow → Level
level_by row = record { part = row.part; amount = row.amount }

abbrev pub levels_by : Result (List LevelRow) Fault → Result (List Level) Fault
levels_by (Ok rows) = Ok (map level_by rows)
levels_by (Err fault) = Err fault

-- the levels that a file says, its parts looked up as the names of this state are, or its first fault
abbrev pub levels_in : List ℕ → State → Result (List Level) Fault
levels_in bytes s = levels_by (file_levels (naming_in s) bytes)

abbrev pub low_by : Result (List Level) Fault → State → Result (Option Lines) Fault
low_by (Ok found) s = Ok (low_list found s)
low_by (Err fault) s = Err fault

-- the lines of the list of that file, none where a part of a number isn't there; or the file's first fault
abbrev pub low_lines : List ℕ → State → Result (Option Lines) Fault
low_lines bytes s = low_by (levels_in bytes s) s
