use Rattle.std.proofs.Common.{◌≡◌, ◌-◌}
use Rattle.std.specs.FinMap as table
use Rattle.std.specs.String.{string_bytes}
use Rattle.sheet_core.specs.Sheet.{now_of}
use Rattle.list_core.specs.Ways.{way_text}
use Rattle.list_core.proofs.Climbing.{way_on}
use Rattle.list_core.proofs.ways.way_field.Given as goal

-- the names that are left, and the way so far behind them, are the whole way
abbrev pub invariant-loop-step : goal.invariant-loop-step
invariant-loop-step l =
    let rows = now_of l.rows in
    way_on (table.len rows - l._step) l.at rows (string_bytes l.way) ≡ way_text l.fn.at rows
