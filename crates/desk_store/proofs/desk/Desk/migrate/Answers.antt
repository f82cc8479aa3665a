use Rattle.std.proofs.Common.{arith, subst, sym}
use Rattle.sqlite.specs.Held.{state}
use Rattle.sqlite.specs.State.{HasCleanDisk}
use Rattle.desk_core.specs.ShopView.{state_of}
use Rattle.desk_store.specs.Migrating.{EitherAre}
use Rattle.desk_store.proofs.desk.Desk.migrate.Goals as goal

pub returns-in-Ok-find_or_bring-clause-desk : goal.returns-in-Ok-find_or_bring-clause-desk
returns-in-Ok-find_or_bring-clause-desk g c = record {
  sound = c.in-Ok-find_or_bring.ensures.sound;
  free = λ clean. (c.in-Ok-find_or_bring.ensures.books clean).rest.free;
  books = λ _ clean. c.in-Ok-find_or_bring.ensures.books clean;
}

pub returns-in-Ok-find_or_bring-clause-found : goal.returns-in-Ok-find_or_bring-clause-found
returns-in-Ok-find_or_bring-clause-found g c clean =
    let past : HasCleanDisk (state g.S.Store c.in-Ok.opened) =
    omega (arith, clean, c.find_or_bring.ensures.crash.clean) in
    subst (EitherAre (state_of c.in-Ok-find_or_bring.shop)) (c.in-Ok.ensures.same past)
    (c.in-Ok-find_or_bring.ensures.found clean).tables

pub returns-in-Ok-find_or_bring-clause-one : goal.returns-in-Ok-find_or_bring-clause-one
returns-in-Ok-find_or_bring-clause-one g c clean s sound tables =
    let past : HasCleanDisk (state g.S.Store c.in-Ok.opened) =
    omega (arith, clean, c.find_or_bring.ensures.crash.clean) in
    (c.in-Ok-find_or_bring.ensures.found clean).one s sound
    (subst (EitherAre s) (sym (c.in-Ok.ensures.same past)) tables)
