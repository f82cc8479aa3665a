use Rattle.std.proofs.Common.{ℕ}
use Rattle.std.specs.Ordering.{nat_cmp}
use Rattle.std.specs.BTreeMap as tree
use Rattle.yard_core.proofs.Sides.{left_step, right_step}
use Rattle.yard_core.proofs.opening.shares.add_share.Goals as goal

pub returns : goal.returns
returns c = λ ss are.
    let f = λ (q : ℕ). tree.get nat_cmp c.args.totals.now q in
    let g = λ (q : ℕ). tree.get nat_cmp c.insert.new.self q in
    let step = c.in_ok-insert.ensures.updates.0 in
    record {
      left =
          left_step f g ss c.args.share c.total_of-before.result c.in_ok-left.left c.in_ok-right.right
          c.total_of-before.ensures c.in_ok-left.ensures c.in_ok-right.ensures step are.left;
      right =
          right_step f g ss c.args.share c.total_of-before.result c.in_ok-left.left c.in_ok-right.right
          c.total_of-before.ensures c.in_ok-left.ensures c.in_ok-right.ensures step are.right;
    }
