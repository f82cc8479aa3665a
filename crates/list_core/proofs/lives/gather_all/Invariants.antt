use Rattle.std.proofs.Common.{◌≡◌, drop}
use Rattle.sheet_core.specs.Sheet.{now_of}
use Rattle.list_core.specs.Lives.{with_entries}
use Rattle.list_core.proofs.lives.gather_all.Given as goal

-- what is gathered so far, with what is left, is what all entries say
abbrev pub invariant-loop-entry : goal.invariant-loop-entry
invariant-loop-entry l =
    with_entries (drop l.entry-index l.entries) (now_of l.lives) ≡ with_entries l.entries (now_of l.initial.lives)
