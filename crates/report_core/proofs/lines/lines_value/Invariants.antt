use Rattle.std.proofs.Common.{◌≡◌, ◌++◌, drop, map}
use Rattle.serde_json.specs.View.{view}
use Rattle.report_core.specs.Lines.{line_data, lines_of}
use Rattle.report_core.proofs.lines.lines_value.Given as goal

-- the values so far and those of what is left are all values
abbrev pub invariant-loop-line : goal.invariant-loop-line
invariant-loop-line l =
    map view l.values.items ++ map line_data (lines_of (drop l.line-index l.lines)) ≡ map line_data (lines_of l.lines)
