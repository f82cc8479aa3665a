use Rattle.std.proofs.Common.{arith}
use Rattle.desk_core.proofs.AssembledShops.{keys_from}
use Rattle.desk_core.proofs.laws.are_keys.Goals as goal

pub returns : goal.returns
returns c = keys_from c.args.rows.now (λ k d lt. c.loop-row.invariant k d (omega (arith, lt)))
