use Rattle.std.proofs.Common.{sym, subst}
use Rattle.desk_core.specs.Machine.{State}
use Rattle.desk_core.specs.ShopView.{state_of}
use Rattle.desk_core.specs.Staying.{AllStay}
use Rattle.desk_core.proofs.AllStays.{accepted_stays}
use Rattle.desk_store.proofs.desk.Desk.run.Goals as goal

pub save-requires-clause-stays : goal.save-requires-clause-stays
save-requires-clause-stays g c =
    let old = state_of c.args.self.now.shop in
    let mid = state_of c.accept.new.self in
    subst (λ (s : State). AllStay s mid) (sym c.accept.ensures.before)
    (accepted_stays old mid c.args.request.now c.accept.result c.accept.ensures.accepts)
