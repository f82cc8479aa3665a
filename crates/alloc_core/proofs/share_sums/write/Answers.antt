use Rattle.std.proofs.Common.{◌∙◌, cond, sym, ap}
use Rattle.sheet_core.specs.Sheet.{now_of}
use Rattle.yard_core.proofs.Changing.{on_ok}
use Rattle.alloc_core.specs.ShareSums.{is_same_share, sum_at}
use Rattle.alloc_core.proofs.KeptSums.{sum-gone, sum-put}
use Rattle.alloc_core.proofs.share_sums.write.Goals as goal

pub returns-then-amount-eq0-clause-written : goal.returns-then-amount-eq0-clause-written
returns-then-amount-eq0-clause-written c =
    let t = now_of c.args.sums.now in
    on_ok c.remove.result c.remove.ensures.ok (λ e other.
    ap (sum_at other) e ∙ sum-gone t c.args.share other
    ∙ ap (λ n. cond (is_same_share other c.args.share) n (sum_at other t)) (sym c.if-amount-eq0.true))

pub returns-else-amount-eq0-clause-written : goal.returns-else-amount-eq0-clause-written
returns-else-amount-eq0-clause-written c =
    on_ok c.put.result c.put.ensures.ok (λ e other.
    ap (sum_at other) e
    ∙ sum-put (now_of c.args.sums.now) c.args.share (record { share = c.args.share; amount = c.args.amount }) other)
