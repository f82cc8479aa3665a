use Rattle.std.proofs.Common.{◌≡◌, drop}
use Rattle.sheet_core.specs.Sheet.{now_of}
use Rattle.list_core.specs.Gathered.{gathered}
use Rattle.list_core.proofs.shortage_list.gather_all.Given as goal

-- what is gathered so far, with what is left, is what all want
abbrev pub invariant-loop-row : goal.invariant-loop-row
invariant-loop-row l =
    gathered (drop l.row-index l.rows) (now_of l.wants) ≡ gathered l.rows (now_of l.initial.wants)
