use Rattle.std.proofs.Common.{arith}
use Rattle.std.proofs.lemmas.Grind.{common_steps}
use Rattle.list_core.proofs.Gathered.{gathered_append}
use Rattle.list_core.proofs.shortage_list.wants_of.Goals as goal

pub loop-build-preserved : goal.loop-build-preserved
loop-build-preserved c =
    grind (
      arith,
      common_steps,
      gathered_append,
      c.in_ok-gather_all.ensures,
      c.in_ok-rows.ensures,
      c.as_slice.ensures.value,
      c.loop-build.invariant,
    )
