use Rattle.std.proofs.Common.{◌≡◌, drop, map}
use Rattle.std.specs.FinMap as table
use Rattle.sheet_core.specs.Sheet.{now_of}
use Rattle.list_core.specs.Coming.{gathered}
use Rattle.list_core.proofs.coming.gathered.Given as goal

-- what is gathered so far, with the lines that are left, is what all lines have
abbrev pub invariant-loop-line : goal.invariant-loop-line
invariant-loop-line l =
    gathered (map (λ x. x.now) (drop l.line-index l.lines)) (now_of l.coming)
    ≡ gathered (map (λ x. x.now) l.lines) table.empty
