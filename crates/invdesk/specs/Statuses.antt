-- The status that the program ends with.
use Rattle.std.specs.Prelude.{◌≡◌, ◌≢◌, ◌⊎◌, ℕ, List, Some, None, IsSome, Result, Ok, Err}
use Rattle.sqlite_disk.specs.declared.Disk as disk
use Rattle.desk_cli.specs.Statuses.{early_status, status_of, status_of_fault}
use Rattle.desk_cli.specs.Words.{Answers, file_of}
use Rattle.desk_cli.specs.declared.database.FileFault.{FileFault}
use Rattle.desk_core.specs.declared.end.RunEnd.{RunEnd}
use Rattle.desk_cli.specs.declared.task.Task.{Task}
use Rattle.desk_cli.specs.declared.task.Task.TheVariants as task
use Rattle.invdesk.specs.Files.{EndsOnFile}
use Rattle.invdesk.specs.Memory.{DoesInMemory}

-- Words that ask for no desk are told so at once: with their status, or, where it can't be printed what they ask for, with
-- that of a device that failed.
abbrev pub IsToldAtOnce : Task → ℕ → Type 0
IsToldAtOnce it status = (early_status it ≡ Some status) ⊎ ((early_status it ≢ None) × (status ≡ 3))

-- of how work on a file ended, or of the fault by which there was none
abbrev pub status_on_file : Result RunEnd FileFault → ℕ
status_on_file (Ok end) = status_of end
status_on_file (Err fault) = status_of_fault fault

-- of work on a file it is the status of how the work ended, or of why there is no desk
abbrev pub IsStatusOnFile : {D : Type 0} → disk.Ghosts D → Task → ℕ → Type 0
IsStatusOnFile g it status =
    (ended : Result RunEnd FileFault) × EndsOnFile g it ended × (status ≡ status_on_file ended)

-- of work on a desk: where a file is named that of the file, else one in memory
abbrev pub IsStatusAfter : {D : Type 0} → disk.Ghosts D → Task → ℕ → Type 0
IsStatusAfter g it status =
    (IsSome (file_of it) × IsStatusOnFile g it status)
    ⊎ ((file_of it ≡ None) × ((end : RunEnd) × DoesInMemory it end × (status ≡ status_of end)))

-- of what the words ask for
abbrev pub IsStatusOf : {D : Type 0} → disk.Ghosts D → Task → ℕ → Type 0
IsStatusOf g it status = IsToldAtOnce it status ⊎ ((early_status it ≡ None) × IsStatusAfter g it status)

-- some words ask for it, or they couldn't be read
abbrev pub IsAsked : Task → Type 0
IsAsked it = ((words : List (List ℕ)) × Answers words it) ⊎ ((it ≡ task.Memory) ⊎ (it ≡ task.Unreadable))

-- the program ends with the status of what its words ask for
abbrev pub EndsWith : {D : Type 0} → disk.Ghosts D → ℕ → Type 0
EndsWith g status = (it : Task) × IsAsked it × IsStatusOf g it status
