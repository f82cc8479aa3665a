use Rattle.std.proofs.Common.{◌≡◌, arith, sym, subst}
use Rattle.sqlite.specs.Held.{state}
use Rattle.sqlite.specs.State.{HasCleanDisk}
use Rattle.sqlite.proofs.StateLemmas.{survives_then, survives_weaker}
use Rattle.desk_core.specs.ShopView.{state_before, state_of}
use Rattle.desk_store.specs.StateTables.{TablesAre}
use Rattle.desk_store.proofs.Grouping.{but_the_counter}
use Rattle.desk_store.proofs.Kept.{small_meta}
use Rattle.desk_store.proofs.Midway.{all_of_them, both_ok, committed}
use Rattle.desk_store.proofs.add.write_last.Goals as goal

pub write_counter-requires-clause-small : goal.write_counter-requires-clause-small
write_counter-requires-clause-small g c = small_meta (state_of c.args.shop.now) c.requires.sound

pub write_counter-requires-clause-under_way : goal.write_counter-requires-clause-under_way
write_counter-requires-clause-under_way g c clean =
    but_the_counter (state_before c.args.shop.now) (state_of c.args.shop.now) (state g.S.Store c.args.conn.now)
    (c.requires.inside clean) (c.requires.shows clean)

pub commit-requires : goal.commit-requires
commit-requires g c clean = (c.in_ok-write_counter.ensures.under_way clean).ready.0.1

pub returns-in_err-write_counter-clause-crash : goal.returns-in_err-write_counter-clause-crash
returns-in_err-write_counter-clause-crash g c =
    survives_weaker (state g.S.Store c.args.conn.now) (state g.S.Store c.write_counter.new.conn) (λ _. ⊥) _
    (λ _ db h. absurd h) c.write_counter.ensures.crash

pub returns-clause-held : goal.returns-clause-held
returns-clause-held g c clean =
    let d1 = state g.S.Store c.write_counter.new.conn in
    let d2 = state g.S.Store c.commit.new.conn in
    let clean1 : HasCleanDisk d1 = omega (arith, clean, c.commit.ensures.crash.clean) in
    let way = c.in_ok-write_counter.ensures.under_way clean1 in
    both_ok c.commit.result
    (λ shown tables. committed (state_before c.args.shop.now) (state_of c.args.shop.now) d1 d2
    (λ db up may. g.met.S.Store.settled c.commit.new.conn.store db up may) way shown tables)
    (c.commit.ensures.committed clean) (c.commit.ensures.tables clean way.ready.0.0)

pub returns-clause-crash : goal.returns-clause-crash
returns-clause-crash g c =
    let d0 = state g.S.Store c.args.conn.now in
    let d1 = state g.S.Store c.write_counter.new.conn in
    let d2 = state g.S.Store c.commit.new.conn in
    let now = state_of c.args.shop.now in
    survives_then d0 d1 d2 (λ _. ⊥) (λ trees. trees ≡ d1.now.trees) (λ trees. TablesAre now trees)
    (λ _ db h. absurd h)
    (λ clean db same.
    let clean1 : HasCleanDisk d1 = omega (arith, clean, c.commit.ensures.crash.clean) in
    subst (TablesAre now) (sym same)
    (all_of_them (state_before c.args.shop.now) now d1.now.trees
    (c.in_ok-write_counter.ensures.under_way clean1).midway)) c.write_counter.ensures.crash c.commit.ensures.crash
