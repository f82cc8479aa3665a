use Rattle.std.proofs.Common.{◌≡◌, ◌++◌, ◌∷◌, drop, map}
use Rattle.desk_core.specs.ShopView.{state_of}
use Rattle.report_core.specs.Lines.{lines_of}
use Rattle.list_core.specs.TraceList.{step_row, trace_header}
use Rattle.list_core.proofs.trace_list.trace_lines.Given as goal

-- the lines so far and those of what is left are all lines
abbrev pub invariant-loop-step : goal.invariant-loop-step
invariant-loop-step l =
    lines_of l.lines.items ++ map (step_row (state_of l.shop)) (drop l.step-index l.steps)
    ≡ trace_header ∷ map (step_row (state_of l.shop)) l.steps
