use Rattle.bom_tests.specs.Ready.{IsReady}
use Rattle.bom_tests.proofs.calls.chain.Given as goal

abbrev pub invariant-loop-i : goal.invariant-loop-i
invariant-loop-i l = IsReady l.catalogue l.boms l.counter
