use Rattle.std.proofs.Common.{◌≡◌, ◌-◌, Some}
use Rattle.std.specs.FinMap as table
use Rattle.sheet_core.specs.Sheet.{now_of}
use Rattle.list_core.specs.Ways.{is_under}
use Rattle.list_core.proofs.Climbing.{meets}
use Rattle.list_core.proofs.ways.is_under.Given as goal

-- what is left of the walk meets the row at the top where the whole walk does
abbrev pub invariant-loop-step : goal.invariant-loop-step
invariant-loop-step l =
    let rows = now_of l.rows in
    meets l.top (table.len rows - l._step) (Some l.at) rows ≡ is_under l.top l.fn.number rows
