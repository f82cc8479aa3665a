use Rattle.desk_core.specs.ShopView.{state_of}
use Rattle.list_core.proofs.LastDays.{past_told}
use Rattle.list_core.proofs.past.past_of.Goals as goal

pub returns : goal.returns
returns c =
    past_told c.args.subject (state_of c.args.shop.now) _ c.in_ok-origins.ensures c.in_ok-days.ensures
