use Rattle.desk_store.specs.Desks.{IsDesk}
use Rattle.command_tests.proofs.alike.runs_on.Given as goal

abbrev pub invariant-loop-pair : goal.invariant-loop-pair
invariant-loop-pair g l = record { desk : IsDesk g.S.Store l.desk }
