-- What is wrong with what lies at a file's name, and at its log's; and what a file has, by its first bytes.
use Rattle.std.specs.Prelude.{ℕ, List, [], ◌∷◌, ◌++◌, Bool, false, not, ◌==◌, ◌||◌, codes, if◌then◌else◌, nat_eq, Option, Some, None}
use Rattle.std.specs.List.{starts_with}
use Rattle.std.specs.Str.{bytes_eq}
use Rattle.desk_cli.specs.declared.look.Content.{Content}
use Rattle.desk_cli.specs.declared.look.Content.TheVariants.{Empty, Foreign, Database}
use Rattle.desk_cli.specs.declared.look.Found.{Found}
use Rattle.desk_cli.specs.declared.look.Found.TheVariants.{Nothing, Link, File, SharedFile, Other}
use Rattle.desk_cli.specs.declared.database.FileFault.{FileFault}
use Rattle.desk_cli.specs.declared.database.FileFault.TheVariants.{DanglingLink, SecondName, NoFile}
use Rattle.desk_cli.specs.declared.database.FileFault.TheVariants.{LinkedLog, SecondLog, NoLog}

-- names that the database keeps for itself
abbrev pub is_kept_name : List ℕ → Bool
is_kept_name path = bytes_eq path (codes ":memory:") || starts_with nat_eq path (codes "file:")

-- where links were followed as far as they lead, a link leads to nothing
abbrev pub fault_of_file : Found → Option FileFault
fault_of_file Nothing = None
fault_of_file File = None
fault_of_file Link = Some DanglingLink
fault_of_file SharedFile = Some SecondName
fault_of_file Other = Some NoFile

-- a log is a file of one name, or isn't there
abbrev pub fault_of_log : Found → Option FileFault
fault_of_log Nothing = None
fault_of_log File = None
fault_of_log Link = Some LinkedLog
fault_of_log SharedFile = Some SecondLog
fault_of_log Other = Some NoLog

-- a log that belongs neither to its file's owner nor to the user that the program acts as
abbrev pub is_foreign : Option ℕ → ℕ → ℕ → Bool
is_foreign None owner user = false
is_foreign (Some log) owner user = not (log == owner || log == user)

-- what each database begins with
abbrev pub database_front : List ℕ
database_front = codes "SQLite format 3" ++ (0 ∷ [])

-- what a file has that begins so
abbrev pub content_of : List ℕ → Content
content_of [] = Empty
content_of (b ∷ bs) = if starts_with nat_eq (b ∷ bs) database_front then Database else Foreign
