use Rattle.std.proofs.Common.{take}
use Rattle.sheet_core.specs.Log.{AreNumbered}
use Rattle.sheet_core.proofs.log.are_numbered.Given as goal

abbrev pub invariant-loop-i : goal.invariant-loop-i
invariant-loop-i g l = AreNumbered g.R.Row.key_of 1 (take l.i l.rows)
