-- What is printed of a desk.
use Rattle.std.specs.Prelude.{◌≡◌, ◌⊎◌, ℕ, List, Bool, true, false, Option, None, Result, Ok, Err}
use Rattle.std.specs.Io.KnownBytes.{Appends, Keeps}
use Rattle.desk_core.specs.Machine.{State}
use Rattle.desk_store.specs.Dumps.{dump_text}
use Rattle.desk_store.specs.Exports.{AppendsFront, table_text}
use Rattle.list_core.specs.Listings.{listing_lines}
use Rattle.report_core.specs.Lines.{Lines}
use Rattle.report_core.specs.Reports.{report_lines}
use Rattle.list_core.specs.declared.listing.Listing.{Listing}
use Rattle.report_core.specs.declared.name.ReportName.{ReportName}
use Rattle.report_core.specs.declared.name.ReportName.TheVariants.{History}
use Rattle.desk_wire.specs.Levels.{Fault}
use Rattle.desk_wire.specs.Writing.{fault_text}
use Rattle.desk_wire.specs.declared.fault.FileError.{FileError}
use Rattle.desk_wire.specs.declared.fault.FileError.TheVariants as error
use Rattle.desk_wire.specs.declared.fault.What.{What}
use Rattle.desk_cli.specs.Printed.{migrated_text}
use Rattle.desk_wire.specs.Printed.{printed}
use Rattle.list_words.specs.Lists.{listing_by}
use Rattle.desk_cli.specs.LowLevels.{low_lines}
use Rattle.desk_cli.specs.Layouts.{laid_out}
use Rattle.desk_cli.specs.LowLists.{told_low}
use Rattle.desk_cli.specs.Subjects.{row_of_report}
use Rattle.desk_core.specs.declared.end.RunEnd.{RunEnd}
use Rattle.desk_core.specs.declared.end.RunEnd.TheVariants.{Done, ReadFailed, WriteFailed, Memory, Store}
use Rattle.desk_cli.specs.declared.show.ListLayout.{ListLayout}
use Rattle.desk_cli.specs.declared.task.LookAt.{LookAt}
use Rattle.desk_cli.specs.declared.task.LookAt.TheVariants as look
use Rattle.invdesk.specs.Rows.{IsOfFile}

-- this text was printed whole, and the end tells whether it is what was asked for; or a front of it, where the writer
-- failed; or nothing
abbrev pub PrintsText : List ℕ × Bool → Option (List ℕ) → Option (List ℕ) → RunEnd → Type 0
PrintsText told w w' (Done fine) = (fine ≡ told.1) × Appends w w' told.0
PrintsText told w w' WriteFailed = AppendsFront w w' told.0
PrintsText told w w' Memory = Keeps w w'
PrintsText told w w' Store = Keeps w w'
PrintsText told w w' ReadFailed = ⊥

-- this text was printed line by line: whole, or a front of it, where the writer failed or memory ran out
abbrev pub PrintsLines : List ℕ × Bool → Option (List ℕ) → Option (List ℕ) → RunEnd → Type 0
PrintsLines told w w' Memory = AppendsFront w w' told.0
PrintsLines told w w' end = PrintsText told w w' end

-- the report was printed, a history line by line
abbrev pub PrintsReport : ReportName → ℕ → State → Option (List ℕ) → Option (List ℕ) → RunEnd → Type 0
PrintsReport History number s w w' end = PrintsLines (printed (report_lines History number s)) w w' end
PrintsReport name number s w w' end = PrintsText (printed (report_lines name number s)) w w' end

-- a word says no row, so nothing was printed
abbrev pub PrintsNone : Option (List ℕ) → Option (List ℕ) → RunEnd → Type 0
PrintsNone w w' (Done fine) = (fine ≡ false) × Keeps w w'
PrintsNone w w' Memory = Keeps w w'
PrintsNone w w' Store = Keeps w w'
PrintsNone w w' _ = ⊥

-- the report of the row that was asked for was printed; where the word says none, nothing was
abbrev pub PrintsOfRow : ReportName → Result ℕ What → State → Option (List ℕ) → Option (List ℕ) → RunEnd → Type 0
PrintsOfRow name (Ok number) s w w' end = PrintsReport name number s w w' end
PrintsOfRow name (Err what) s w w' end = PrintsNone w w' end

-- the list that was asked for was printed, laid out so; where a word says no row, nothing was
abbrev pub PrintsList : ListLayout → Result Listing What → State → Option (List ℕ) → Option (List ℕ) → RunEnd → Type 0
PrintsList layout (Ok listing) s w w' end = PrintsText (laid_out layout (listing_lines listing s)) w w' end
PrintsList layout (Err what) s w w' end = PrintsNone w w' end

-- it was printed on the standard output: whether that is a person's terminal, and how wide, is known to no clause
abbrev pub PrintsListOut : Bool → Result Listing What → State → Option (List ℕ) → Option (List ℕ) → RunEnd → Type 0
PrintsListOut csv listing s w w' end =
    (person : Bool) × (most : Option ℕ)
    × PrintsList (record { csv = csv; person = person; most = most }) listing s w w' end

-- of a file's fault the line was printed, and for want of memory nothing
abbrev pub PrintsFault : FileError → Option (List ℕ) → Option (List ℕ) → RunEnd → Type 0
PrintsFault error.Memory w w' end = (end ≡ Memory) × Keeps w w'
PrintsFault (error.Wrong what field) w w' end = PrintsText (fault_text what, false) w w' end

-- the list of what has less free than a file of levels says was printed, or the file's fault; or the file couldn't be read.
-- Which bytes it has is known to no clause, so some bytes
abbrev pub PrintsLow : Bool → State → Option (List ℕ) → Option (List ℕ) → RunEnd → Type 0
PrintsLow csv s w w' end =
    (IsOfFile end × Keeps w w')
    ⊎ ((bytes : List ℕ) × (person : Bool) × (most : Option ℕ)
    × PrintsText (told_low (record { csv = csv; person = person; most = most }) (low_lines bytes s)) w w' end)

-- what is looked at was printed of a desk in this state
abbrev pub Prints : LookAt → State → Option (List ℕ) → Option (List ℕ) → RunEnd → Type 0
Prints (look.Report name of) s w w' end = PrintsOfRow name (row_of_report name of s) s w w' end
Prints (look.Export table) s w w' end = PrintsLines (table_text table s, true) w w' end
Prints look.Dump s w w' end = PrintsLines (dump_text s, true) w w' end
Prints (look.Show list csv) s w w' end = PrintsListOut csv (listing_by list s) s w w' end
Prints (look.Low levels csv) s w w' end = PrintsLow csv s w w' end

-- where it failed since whoever reads it has gone, printing ends well
abbrev pub ends_quietly : Bool → RunEnd → RunEnd
ends_quietly true WriteFailed = Done true
ends_quietly is_left end = end

-- The same on the standard output, whose bytes are known to no clause, nor whether whoever reads it has gone.
abbrev pub PrintsOut : LookAt → State → RunEnd → Type 0
PrintsOut shown s end =
    (is_left : Bool) × (printed : RunEnd) × Prints shown s None None printed × (end ≡ ends_quietly is_left printed)

-- there it was printed that a file was brought along
abbrev pub PrintsMoved : RunEnd → Type 0
PrintsMoved end =
    (is_left : Bool) × (printed : RunEnd) × PrintsText (migrated_text, true) None None printed
    × (end ≡ ends_quietly is_left printed)
