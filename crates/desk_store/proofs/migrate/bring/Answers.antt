use Rattle.std.proofs.Common.{◌≡◌, arith, subst, sym}
use Rattle.sqlite.specs.Held.{state}
use Rattle.sqlite.specs.State.{HasCleanDisk}
use Rattle.sqlite.proofs.StateLemmas.{survives_then}
use Rattle.desk_core.specs.ShopView.{state_of}
use Rattle.desk_store.specs.Migrating.{MayBeMigrated}
use Rattle.desk_store.specs.StateTables.{TablesAre}
use Rattle.desk_store.proofs.Migrations.{books-before, told-moved}
use Rattle.desk_store.proofs.migrate.bring.Goals as goal

pub returns-in-Ok-clause-found : goal.returns-in-Ok-clause-found
returns-in-Ok-clause-found g c clean =
    let d = state g.S.Store c.bring_up.new.conn in
    let clean_d : HasCleanDisk d = omega (arith, clean, c.commit.ensures.crash.clean) in
    books-before (state g.S.Store c.args.conn.now).now.trees c.in_ok-shop.shop d
    (c.in_ok-shop.ensures.brought clean_d)

pub returns-in-Ok-clause-crash : goal.returns-in-Ok-clause-crash
returns-in-Ok-clause-crash g c =
    let d = state g.S.Store c.bring_up.new.conn in
    let shop = c.in_ok-shop.shop in
    survives_then (state g.S.Store c.args.conn.now) d (state g.S.Store c.commit.new.conn) (λ _. ⊥)
    (λ trees. trees ≡ d.now.trees) (TablesAre (state_of shop)) (λ _ trees none. absurd none)
    (λ clean trees same.
    let clean_d : HasCleanDisk d = omega (arith, clean, c.commit.ensures.crash.clean) in
    subst (TablesAre (state_of shop)) (sym same) (c.in_ok-shop.ensures.brought clean_d).tables)
    c.bring_up.ensures.crash c.commit.ensures.crash

pub returns-in-Err-clause-crash : goal.returns-in-Err-clause-crash
returns-in-Err-clause-crash g c =
    let a = state g.S.Store c.args.conn.now in
    let d = state g.S.Store c.bring_up.new.conn in
    let e = state g.S.Store c.commit.new.conn in
    let shop = c.in_ok-shop.shop in
    survives_then a d e (λ _. ⊥) (λ trees. trees ≡ d.now.trees)
    (λ trees. MayBeMigrated a.now.trees trees c.from.result) (λ _ trees none. absurd none)
    (λ clean trees same.
    let clean_d : HasCleanDisk d = omega (arith, clean, c.commit.ensures.crash.clean) in
    let brought = c.in_ok-shop.ensures.brought clean_d in
    told-moved a.now.trees trees d e c.in-Err.fault c.from.result c.from.ensures (c.in-Err.ensures.stopped clean) (
      state_of shop,
      c.in_ok-shop.ensures.sound,
      brought.old,
      subst (TablesAre (state_of shop)) (sym same) brought.tables,
    ))
    c.bring_up.ensures.crash c.commit.ensures.crash
