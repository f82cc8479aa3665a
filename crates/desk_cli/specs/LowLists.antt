-- The list of what has less free than its level, of a desk.
use Rattle.std.specs.Prelude.{◌≡◌, ℕ, List, Bool, false, Option, IsSome, Result, Ok, Err}
use Rattle.report_core.specs.Lines.{Lines}
use Rattle.desk_wire.specs.Levels.{FailsAs, Fault}
use Rattle.desk_wire.specs.Writing.{fault_text}
use Rattle.desk_cli.specs.Layouts.{laid_out}
use Rattle.desk_cli.specs.declared.low_list.NoLevels.{NoLevels}
use Rattle.desk_cli.specs.declared.low_list.NoLevels.TheVariants.{Closed, Wrong}
use Rattle.desk_cli.specs.declared.show.ListLayout.{ListLayout}

-- why there are no levels, of a desk that this fault has closed, if one has
abbrev pub TellsNoLevels : {F A : Type 0} → Option F → Result A Fault → NoLevels → Type 0
TellsNoLevels failed reading (Wrong error) = FailsAs reading error
TellsNoLevels failed reading Closed = IsSome failed

-- what is printed by a file of levels: the list, laid out so, or that there is no such part, or the file's fault
abbrev pub told_low : ListLayout → Result (Option Lines) Fault → List ℕ × Bool
told_low layout (Ok lines) = laid_out layout lines
told_low layout (Err fault) = (fault_text fault.0, false)
