use Rattle.std.proofs.Common.{◌≡◌, ◌++◌, drop, map}
use Rattle.desk_cli.specs.LowLevels.{level_by}
use Rattle.desk_cli.proofs.low_levels.levels_by.Given as goal

-- the levels so far, and those of the rows that are left, are those of all rows
abbrev pub invariant-loop-row : goal.invariant-loop-row
invariant-loop-row l = l.levels.items ++ map level_by (drop l.row-index l.rows) ≡ map level_by l.rows
