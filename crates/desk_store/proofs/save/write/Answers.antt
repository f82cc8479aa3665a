use Rattle.std.proofs.Common.{◌≡◌, true, sym, subst, arith}
use Rattle.sqlite.specs.Held.{state}
use Rattle.sqlite.specs.State.{HasCleanDisk, KeepsCommit}
use Rattle.sqlite.proofs.StateLemmas.{survives_then, survives_weaker}
use Rattle.desk_core.specs.ShopView.{state_before, state_of}
use Rattle.desk_store.specs.StateTables.{TablesAre}
use Rattle.desk_store.proofs.Midway.{all_of_them, begun, both_ok, committed, keeps_failed}
use Rattle.desk_store.proofs.Midway.{keeps_later, keeps_shown, keeps_then, keeps_unless, when_err}
use Rattle.desk_store.proofs.save.write.Goals as goal

pub begin-requires : goal.begin-requires
begin-requires g c clean = (c.requires.books clean).rest.free

pub write_tables-requires-clause-under_way : goal.write_tables-requires-clause-under_way
write_tables-requires-clause-under_way g c clean =
    let d0 = state g.S.Store c.args.conn.now in
    let clean0 : HasCleanDisk d0 = omega (arith, clean, c.begin.ensures.crash.clean) in
    let holds = c.requires.books clean0 in
    begun (state_before c.args.shop.now) (state_of c.args.shop.now) d0 (state g.S.Store c.begin.new.conn) holds
    (c.in_ok-begin.ensures.begun clean) (c.in_ok-begin.ensures.tables clean holds.tables)

pub commit-requires : goal.commit-requires
commit-requires g c clean = (c.in_ok-write_tables.ensures.under_way clean).ready.0.1

pub returns-in_err-begin-clause-commit : goal.returns-in_err-begin-clause-commit
returns-in_err-begin-clause-commit g c clean =
    when_err c.from_residual.result
    (keeps_failed (state g.S.Store c.args.conn.now) (state g.S.Store c.begin.new.conn) _
    (c.in_err-begin.ensures.stopped clean))

pub returns-in_err-write_tables-clause-commit : goal.returns-in_err-write_tables-clause-commit
returns-in_err-write_tables-clause-commit g c clean =
    let d0 = state g.S.Store c.args.conn.now in
    let d1 = state g.S.Store c.begin.new.conn in
    let clean1 : HasCleanDisk d1 = omega (arith, clean, c.write_tables.ensures.crash.clean) in
    when_err c.from_residual-in_err-write_tables.result
    (keeps_then d0 d1 (state g.S.Store c.write_tables.new.conn)
    (keeps_shown d0 d1 d0.now true (c.in_ok-begin.ensures.begun clean1)) (c.write_tables.ensures.commit clean))

pub returns-in_err-begin-clause-crash : goal.returns-in_err-begin-clause-crash
returns-in_err-begin-clause-crash g c =
    survives_weaker (state g.S.Store c.args.conn.now) (state g.S.Store c.begin.new.conn) (λ _. ⊥) _ (λ _ db h. absurd h)
    c.begin.ensures.crash

pub returns-in_err-write_tables-clause-crash : goal.returns-in_err-write_tables-clause-crash
returns-in_err-write_tables-clause-crash g c =
    survives_then (state g.S.Store c.args.conn.now) (state g.S.Store c.begin.new.conn)
    (state g.S.Store c.write_tables.new.conn) (λ _. ⊥) (λ _. ⊥) _ (λ _ db h. absurd h) (λ _ db h. absurd h)
    c.begin.ensures.crash c.write_tables.ensures.crash

pub returns-clause-saved : goal.returns-clause-saved
returns-clause-saved g c clean =
    let d2 = state g.S.Store c.write_tables.new.conn in
    let d3 = state g.S.Store c.commit.new.conn in
    let clean2 : HasCleanDisk d2 = omega (arith, clean, c.commit.ensures.crash.clean) in
    let way = c.in_ok-write_tables.ensures.under_way clean2 in
    both_ok c.commit.result
    (λ shown tables. committed (state_before c.args.shop.now) (state_of c.args.shop.now) d2 d3
    (λ db up may. g.met.S.Store.settled c.commit.new.conn.store db up may) way shown tables)
    (c.commit.ensures.committed clean) (c.commit.ensures.tables clean way.ready.0.0)

pub returns-clause-commit : goal.returns-clause-commit
returns-clause-commit g c clean =
    let d0 = state g.S.Store c.args.conn.now in
    let d1 = state g.S.Store c.begin.new.conn in
    let d2 = state g.S.Store c.write_tables.new.conn in
    let d3 = state g.S.Store c.commit.new.conn in
    let clean2 : HasCleanDisk d2 = omega (arith, clean, c.commit.ensures.crash.clean) in
    let clean1 : HasCleanDisk d1 = omega (arith, clean2, c.write_tables.ensures.crash.clean) in
    let begun : KeepsCommit d0 d1 = keeps_shown d0 d1 d0.now true (c.in_ok-begin.ensures.begun clean1) in
    keeps_later d0 d2 d3 c.commit.result (keeps_then d0 d1 d2 begun (c.write_tables.ensures.commit clean2))
    (keeps_unless d2 d3 c.commit.result (c.commit.ensures.stopped clean))

pub returns-clause-crash : goal.returns-clause-crash
returns-clause-crash g c =
    let d0 = state g.S.Store c.args.conn.now in
    let d1 = state g.S.Store c.begin.new.conn in
    let d2 = state g.S.Store c.write_tables.new.conn in
    let d3 = state g.S.Store c.commit.new.conn in
    let new = state_of c.args.shop.now in
    let before =
    survives_then d0 d1 d2 (λ _. ⊥) (λ _. ⊥) (λ _. ⊥) (λ _ db h. h) (λ _ db h. h) c.begin.ensures.crash
    c.write_tables.ensures.crash in
    survives_then d0 d2 d3 (λ _. ⊥) (λ trees. trees ≡ d2.now.trees) (λ trees. TablesAre new trees) (λ _ db h. absurd h)
    (λ clean db same.
    let clean2 : HasCleanDisk d2 = omega (arith, clean, c.commit.ensures.crash.clean) in
    subst (TablesAre new) (sym same)
    (all_of_them (state_before c.args.shop.now) new d2.now.trees
    (c.in_ok-write_tables.ensures.under_way clean2).midway)) before c.commit.ensures.crash
