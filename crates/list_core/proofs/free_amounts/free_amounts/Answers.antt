use Rattle.std.proofs.Common.{subst, sym}
use Rattle.sheet_core.specs.Sheet.{Table, now_of}
use Rattle.desk_core.specs.ShopView.{state_of}
use Rattle.list_core.specs.FreeAmounts.{AreFree}
use Rattle.list_core.specs.declared.free_amounts.FreeAmount.{FreeAmount}
use Rattle.list_core.proofs.FreeKept.{free-none, free-put}
use Rattle.list_core.proofs.free_amounts.free_amounts.Goals as goal

pub loop-part-init : goal.loop-part-init
loop-part-init c =
    free-none (state_of c.args.shop.now) (now_of c.new-found.result) c.new-found.ensures.rows

pub loop-part-preserved : goal.loop-part-preserved
loop-part-preserved c =
    let s = state_of c.args.shop.now in
    subst (λ (t : Table FreeAmount). AreFree s t) (sym c.in_ok-put.ensures.ok)
    (free-put s (now_of c.loop-part.found) _ c.in_ok-amount.ensures c.loop-part.invariant)
