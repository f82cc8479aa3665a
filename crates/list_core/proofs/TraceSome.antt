-- There is a list where there is a row to begin with.
use Rattle.std.proofs.Common.{◌≡◌, ◌==◌, ℕ, Bool, false, List, [], ◌∷◌, Some, ap, length}
use Rattle.std.specs.Prelude.{option_map}
use Rattle.desk_core.specs.Machine.{State}
use Rattle.list_core.specs.Trace.{walk}
use Rattle.list_core.specs.TraceList.{trace_lines, trace_list}
use Rattle.list_core.specs.declared.walk.Direction.{Direction}
use Rattle.list_core.specs.declared.walk.Step.{Step}

pub trace_some : (d : Direction) (s : State) (roots : List ℕ) (steps : List Step) → (length roots == 0) ≡ false
    → walk d s roots ≡ Some steps → trace_list d s roots ≡ Some (trace_lines s steps)
trace_some d s [] steps h e = cc
trace_some d s (n ∷ ns) steps h e = ap (option_map (trace_lines s)) e
