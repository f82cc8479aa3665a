use Rattle.std.proofs.Common.{sym, subst}
use Rattle.desk_core.specs.Machine.{IsSoundState}
use Rattle.desk_core.specs.ShopView.{state_of}
use Rattle.desk_core.proofs.Steps.{plain-sound}
use Rattle.desk_core.proofs.shop.Shop.accept.Goals as goal

pub returns-in_ok-act-in-None-clause-sound : goal.returns-in_ok-act-in-None-clause-sound
returns-in_ok-act-in-None-clause-sound c =
    plain-sound (state_of c.keep.new.self) (subst IsSoundState (sym c.keep.ensures.now) c.requires) c.args.request.now
    c.in-None.is c.act.result (state_of c.act.new.self) c.act.ensures.acts

pub returns-in_err-act-in-None-clause-sound : goal.returns-in_err-act-in-None-clause-sound
returns-in_err-act-in-None-clause-sound c =
    plain-sound (state_of c.keep.new.self) (subst IsSoundState (sym c.keep.ensures.now) c.requires) c.args.request.now
    c.in-None.is c.act.result (state_of c.act.new.self) c.act.ensures.acts
