-- The import of a file.
use Rattle.std.specs.Prelude.{◌≡◌, ◌≢◌, ◌⊎◌, ℕ, List, Bool, Option, None, IsSome}
use Rattle.sqlite.specs.Tree.{Trees}
use Rattle.desk_core.specs.Machine.{State}
use Rattle.desk_store.specs.StateTables.{TablesAre}
use Rattle.desk_wire.specs.Sheets.{Sheet, sheet_text}
use Rattle.desk_wire.specs.SheetViews.{shown_sheet}
use Rattle.desk_core.specs.declared.end.RunEnd.{RunEnd}
use Rattle.desk_core.specs.declared.end.RunEnd.TheVariants.{Done, ReadFailed, Memory, Store}
use Rattle.desk_core.specs.declared.end.Stop.{Stop}
use Rattle.desk_core.specs.Ends.{end_of}
use Rattle.desk_app.specs.ImportRuns.{file_rows, ImportedWhole, ImportOf, ImportStopped, IsLeftByImport, Reading}
use Rattle.desk_app.specs.SheetRuns.{PrintsSheet, RunsSheet}
use Rattle.desk_cli.specs.declared.task.RowsFile.{RowsFile}
use Rattle.desk_cli.specs.declared.task.SheetFile.{SheetFile}

-- a file can't be read, or there is no memory for it
abbrev pub IsOfFile : RunEnd → Type 0
IsOfFile ReadFailed = Unit {0}
IsOfFile Memory = Unit {0}
IsOfFile _ = ⊥

-- The file couldn't be read: nothing was done to the books.
pub record Unread {F : Type 0} (old new : Option F) (leaves : Trees → Type 0) (s s' : State) (end : RunEnd) : Type 0 where
  pub why : IsOfFile end
  pub same : s' ≡ s
  pub still : new ≡ old
  pub left : old ≡ None → (trees : Trees) → leaves trees → TablesAre s trees

-- The file was read, and has these rows, or this fault. They were run on books that were in the state s and are in s'.
-- What was written is known to no clause. The books had been closed by the one fault, if by any, and are by the other;
-- these tables a crash may leave of them now.
pub record RunsRows {F : Type 0} (reading : Reading) (old new : Option F) (leaves : Trees → Type 0) (s s' : State)
    (end : RunEnd) : Type 0 where
  pub done : (all : Bool) → end ≡ Done all → ImportedWhole reading None None s s' all
  pub stopped : (stop : Stop) → end ≡ end_of stop → ImportStopped stop reading None None s s'
  pub stays_open : old ≡ None → end ≢ Store → new ≡ None
  pub closed : end ≡ Store → IsSome new
  pub left : old ≡ None → end ≢ Store → (trees : Trees) → leaves trees → TablesAre s' trees
  pub left_by_groups : old ≡ None → (trees : Trees) → leaves trees → IsLeftByImport reading s s' trees

-- the import that the words ask for
abbrev pub asked_by : RowsFile → ImportOf
asked_by rows =
    record {
      kind = rows.kind;
      document = rows.document;
      day = rows.day;
      reading = rows.reading;
      names = rows.names;
    }

-- A file was imported: which bytes it has is known to no clause, so some bytes. Rows might be named in it, or not.
abbrev pub ImportsFile : {F : Type 0} → RowsFile → Option F → Option F → (Trees → Type 0) → State → State → RunEnd → Type 0
ImportsFile rows old new leaves s s' end =
    Unread old new leaves s s' end
    ⊎ ((bytes : List ℕ) × RunsRows (file_rows (asked_by rows) s bytes) old new leaves s s' end)

-- A file of records of a command was imported: which bytes it has is known to no clause, so some bytes.
abbrev pub ImportsSheet : {F : Type 0} → SheetFile → Option F → Option F → (Trees → Type 0) → State → State → RunEnd
    → Type 0
ImportsSheet told old new leaves s s' end =
    Unread old new leaves s s' end
    ⊎ ((bytes : List ℕ)
    × RunsSheet told.stop (sheet_text (shown_sheet told.sheet) bytes) None None old new leaves s s' end)

-- the lines that it is were printed, or it couldn't be read
abbrev pub PrintsLines : Sheet → RunEnd → Type 0
PrintsLines sheet end = IsOfFile end ⊎ ((bytes : List ℕ) × PrintsSheet (sheet_text sheet bytes) None None end)
