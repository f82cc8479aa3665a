use Rattle.desk_core.specs.Machine.{IsSoundState}
use Rattle.desk_core.specs.ShopView.{state_of}
use Rattle.command_tests.proofs.made_up.likely.Given as goal

abbrev pub invariant-loop : goal.invariant-loop
invariant-loop l = record { sound : IsSoundState (state_of l.shop) }
