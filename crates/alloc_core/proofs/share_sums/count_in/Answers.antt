use Rattle.std.proofs.Common.{ap, arith}
use Rattle.yard_core.proofs.Changing.{on_ok}
use Rattle.alloc_core.specs.ShareSums.{adds_to}
use Rattle.alloc_core.proofs.KeptSums.{counts-split}
use Rattle.alloc_core.proofs.share_sums.count_in.Goals as goal

pub returns-clause-counted : goal.returns-clause-counted
returns-clause-counted c =
    let a = c.args.row.now in
    on_ok c.add-2.result c.add-2.ensures.added (λ second share.
    omega (
      arith,
      counts-split a share,
      c.in_ok-add.ensures.added share,
      second share,
      ap (λ s. adds_to s a.quantity share) c.of.ensures,
    ))
