use Rattle.std.proofs.Common.{◌≡◌, ◌+◌, ◌-◌}
use Rattle.sheet_core.specs.Sheet.{now_of}
use Rattle.desk_app.specs.Journal.{free_from}
use Rattle.desk_app.proofs.journal.free_key.Given as goal

-- so far an answer is kept under each key
abbrev pub invariant-loop-taken : goal.invariant-loop-taken
invariant-loop-taken l =
    free_from (now_of l.answers) l.day (l.count + 1) l.count
    ≡ free_from (now_of l.answers) l.day (l.count + 1 + l.taken) (l.count - l.taken)
