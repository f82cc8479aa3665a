use Rattle.std.proofs.Common.{true, ap, ◌∙◌, arith}
use Rattle.sqlite.specs.Effect.{Database}
use Rattle.sqlite.specs.Held.{state}
use Rattle.sqlite.specs.State.{HasCleanDisk}
use Rattle.sqlite.proofs.StateLemmas.{survives_then}
use Rattle.desk_store.proofs.Midway.{keeps_failed, keeps_look, keeps_shown, keeps_then}
use Rattle.desk_store.proofs.Starting.{fresh_still, ready_still}
use Rattle.desk_store.proofs.create.make_tables.Goals as goal

pub create_tables-requires-clause-bare : goal.create_tables-requires-clause-bare
create_tables-requires-clause-bare g c clean =
    ap (λ (db : Database). db.schema) (c.in_ok-begin.ensures.begun clean).now_is
    ∙ c.requires.bare (omega (arith, clean, c.begin.ensures.crash.clean))

pub create_tables-requires-clause-inside : goal.create_tables-requires-clause-inside
create_tables-requires-clause-inside g c clean = (c.in_ok-begin.ensures.begun clean).mode

pub has_no_row-requires : goal.has_no_row-requires
has_no_row-requires g c clean = (c.in_ok-create_tables.ensures.inside clean).0

pub returns-clause-ready : goal.returns-clause-ready
returns-clause-ready g c clean =
    let d2 = state g.S.Store c.create_tables.new.conn in
    let clean2 : HasCleanDisk d2 = omega (arith, clean, c.has_no_row.ensures.crash.clean) in
    ready_still d2 (state g.S.Store c.has_no_row.new.conn) (c.in_ok-create_tables.ensures.inside clean2)
    (c.in_ok-_none.ensures.same clean)

pub returns-clause-fresh : goal.returns-clause-fresh
returns-clause-fresh g c clean =
    let d2 = state g.S.Store c.create_tables.new.conn in
    let clean2 : HasCleanDisk d2 = omega (arith, clean, c.has_no_row.ensures.crash.clean) in
    fresh_still d2 (state g.S.Store c.has_no_row.new.conn) (c.in_ok-create_tables.ensures.made clean2)
    (c.in_ok-_none.ensures.same clean)

pub returns-clause-crash : goal.returns-clause-crash
returns-clause-crash g c =
    let d0 = state g.S.Store c.args.conn.now in
    let d1 = state g.S.Store c.begin.new.conn in
    let d2 = state g.S.Store c.create_tables.new.conn in
    survives_then d0 d2 (state g.S.Store c.has_no_row.new.conn) (λ _. ⊥) (λ _. ⊥) (λ _. ⊥) (λ _ db h. h) (λ _ db h. h)
    (survives_then d0 d1 d2 (λ _. ⊥) (λ _. ⊥) (λ _. ⊥) (λ _ db h. h) (λ _ db h. h) c.begin.ensures.crash
    c.create_tables.ensures.crash)
    c.has_no_row.ensures.crash

pub returns-in_err-begin-clause-commit : goal.returns-in_err-begin-clause-commit
returns-in_err-begin-clause-commit g c clean =
    keeps_failed (state g.S.Store c.args.conn.now) (state g.S.Store c.begin.new.conn) c.in_err-begin.field-0.0
    (c.in_err-begin.ensures.stopped clean)

pub returns-in_err-create_tables-clause-commit : goal.returns-in_err-create_tables-clause-commit
returns-in_err-create_tables-clause-commit g c clean =
    let d0 = state g.S.Store c.args.conn.now in
    let d1 = state g.S.Store c.begin.new.conn in
    let clean1 : HasCleanDisk d1 = omega (arith, clean, c.create_tables.ensures.crash.clean) in
    keeps_then d0 d1 (state g.S.Store c.create_tables.new.conn)
    (keeps_shown d0 d1 d0.now true (c.in_ok-begin.ensures.begun clean1)) (c.create_tables.ensures.kept clean)

pub returns-in_err-_none-clause-commit : goal.returns-in_err-_none-clause-commit
returns-in_err-_none-clause-commit g c clean =
    let d0 = state g.S.Store c.args.conn.now in
    let d1 = state g.S.Store c.begin.new.conn in
    let d2 = state g.S.Store c.create_tables.new.conn in
    let d3 = state g.S.Store c.has_no_row.new.conn in
    let clean2 : HasCleanDisk d2 = omega (arith, clean, c.has_no_row.ensures.crash.clean) in
    let clean1 : HasCleanDisk d1 = omega (arith, clean2, c.create_tables.ensures.crash.clean) in
    keeps_then d0 d2 d3
    (keeps_then d0 d1 d2 (keeps_shown d0 d1 d0.now true (c.in_ok-begin.ensures.begun clean1))
    (c.create_tables.ensures.kept clean2))
    (keeps_look d2 d3 c.has_no_row.result (c.has_no_row.ensures.same clean) (c.has_no_row.ensures.failed clean))

pub returns-clause-commit : goal.returns-clause-commit
returns-clause-commit g c clean =
    let d0 = state g.S.Store c.args.conn.now in
    let d1 = state g.S.Store c.begin.new.conn in
    let d2 = state g.S.Store c.create_tables.new.conn in
    let d3 = state g.S.Store c.has_no_row.new.conn in
    let clean2 : HasCleanDisk d2 = omega (arith, clean, c.has_no_row.ensures.crash.clean) in
    let clean1 : HasCleanDisk d1 = omega (arith, clean2, c.create_tables.ensures.crash.clean) in
    keeps_then d0 d2 d3
    (keeps_then d0 d1 d2 (keeps_shown d0 d1 d0.now true (c.in_ok-begin.ensures.begun clean1))
    (c.create_tables.ensures.kept clean2))
    (keeps_look d2 d3 c.has_no_row.result (c.has_no_row.ensures.same clean) (c.has_no_row.ensures.failed clean))
