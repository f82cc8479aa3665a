use Rattle.std.proofs.Common.{◌≡◌, drop}
use Rattle.std.specs.Prelude.{◌==◌}
use Rattle.word_core.specs.Twice.{stands_twice}
use Rattle.stock_core.proofs.commands.merge.stands_twice.Given as goal

abbrev pub invariant-loop-i : goal.invariant-loop-i
invariant-loop-i l = stands_twice (λ m n. m == n) (drop l.i l.items) ≡ stands_twice (λ m n. m == n) l.items
