use Rattle.std.proofs.Common.{◌∙◌, arith, subst, sym}
use Rattle.sqlite.specs.Held.{state}
use Rattle.sqlite.specs.State.{HasCleanDisk}
use Rattle.desk_core.specs.ShopView.{state_of}
use Rattle.desk_store.specs.StateTables.{TablesAre}
use Rattle.desk_store.specs.Opening.{WhyNot}
use Rattle.desk_store.proofs.Opens.{opened-books}
use Rattle.desk_store.proofs.Readings.{was-clean}
use Rattle.desk_store.proofs.desk.Desk.open.Goals as goal

pub returns-in-Ok-find-clause-desk : goal.returns-in-Ok-find-clause-desk
returns-in-Ok-find-clause-desk g c = record {
  sound = c.in-Ok-find.ensures.sound;
  free = λ clean.
      let read = c.in-Ok-find.ensures.read in
      (read.same clean).0.mode ∙ (c.in-Ok.ensures.rest
      (was-clean (state g.S.Store c.in-Ok.opened) (state g.S.Store c.find.new.conn) _ read.crash clean)).free;
  books = λ _ clean.
      opened-books g.S.Store g.met.S.Store.settled WhyNot c.in-Ok.opened c.find.new.conn c.in-Ok-find.shop
      c.in-Ok-find.ensures.read c.in-Ok.ensures.rest c.in-Ok-find.ensures.tables clean;
}

pub returns-in-Err-find-clause-why : goal.returns-in-Err-find-clause-why
returns-in-Err-find-clause-why g c clean =
    let opened = state g.S.Store c.in-Ok.opened in
    let loaded = state g.S.Store c.find.new.conn in
    let clean1 : HasCleanDisk loaded = omega (arith, clean, c.into_store.ensures.quiet.clean) in
    let read = c.in-Err-find.ensures.read in
    let clean0 : HasCleanDisk opened = was-clean opened loaded _ read.crash clean1 in
    subst (λ trees. WhyNot trees c.in-Err-find.fault) (c.in-Ok.ensures.same clean0) (read.why clean1)

pub returns-in-Ok-find-clause-found : goal.returns-in-Ok-find-clause-found
returns-in-Ok-find-clause-found g c clean =
    let read = c.in-Ok-find.ensures.read in
    let past = was-clean (state g.S.Store c.in-Ok.opened) (state g.S.Store c.find.new.conn) _ read.crash clean in
    subst (TablesAre (state_of c.in-Ok-find.shop)) (c.in-Ok.ensures.same past) (read.gives clean).tables

pub returns-in-Ok-find-clause-one : goal.returns-in-Ok-find-clause-one
returns-in-Ok-find-clause-one g c clean s sound tables =
    let read = c.in-Ok-find.ensures.read in
    let past = was-clean (state g.S.Store c.in-Ok.opened) (state g.S.Store c.find.new.conn) _ read.crash clean in
    (read.gives clean).one s sound (subst (TablesAre s) (sym (c.in-Ok.ensures.same past)) tables)
