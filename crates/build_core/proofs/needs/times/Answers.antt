use Rattle.std.proofs.Common.{arith}
use Rattle.std.proofs.lemmas.Nat.{mul-lt}
use Rattle.build_core.proofs.needs.times.Goals as goal

pub overflow_mul-result : goal.overflow_mul-result
overflow_mul-result c =
    omega
    (arith, mul-lt c.from.result c.from-2.result 18446744073709551616 18446744073709551616 (omega arith) (omega arith))
