use Rattle.std.proofs.Common.{arith}
use Rattle.std.proofs.lemmas.Grind.{common_steps}
use Rattle.report_core.proofs.Padding.{one_space}
use Rattle.report_core.proofs.columns.push_gap.Goals as goal

pub loop-space-preserved : goal.loop-space-preserved
loop-space-preserved c = grind (arith, common_steps, one_space c.args.widest c.loop-space._space c.loop-space-test.true)
