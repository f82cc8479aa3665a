use Rattle.std.proofs.Common.{inl, inr, refl, rules, sym, arith, ◌∙◌}
use Rattle.sqlite.specs.Held.{state}
use Rattle.sqlite.specs.Given.{row_if}
use Rattle.sqlite.specs.State.{HasCleanDisk}
use Rattle.table_store.proofs.Loading.{loading_commits_nothing, loading_fails}
use Rattle.table_store.proofs.Walks.{begins-walk, step-all, step-crash, step-fails, step-front, step-on, step-same}
use Rattle.table_store.proofs.Walks.{step-unread, takes-front}
use Rattle.table_store.proofs.walk.each_row.Goals as goal

pub returns-in-Err-clause-failed : goal.returns-in-Err-clause-failed
returns-in-Err-clause-failed g c clean =
    let held = c.query.follows.holds-at-none in
    let refused = rw (c.load_text.ensures, c.in-Err.is) at held in
    loading_fails c.args.table (state g.S.Store c.args.conn.now) (state g.S.Store c.query.follows.lender-at-none)
    c.in-Err.error (c.requires (omega (arith, clean, refused.survives.clean))) (refused.err clean)

pub returns-in-Err-clause-crash : goal.returns-in-Err-clause-crash
returns-in-Err-clause-crash g c =
    let held = c.query.follows.holds-at-none in
    let refused = rw (c.load_text.ensures, c.in-Err.is) at held in
    loading_commits_nothing c.args.table (state g.S.Store c.args.conn.now)
    (state g.S.Store c.query.follows.lender-at-none) c.requires refused.survives

pub rows-init : goal.rows-init
rows-init g c =
    let made = c.in-Ok.ensures in
    let first = c.args.conn.now in
    record {
      same_reference = refl;
      walks = record {
        crash = loading_commits_nothing c.args.table (state g.S.Store first) (state g.S.Store c.in-Ok.rows.conn.now)
            c.requires (rw (c.load_text.ensures) at made.survives);
        taken = λ clean.
            begins-walk g.S.Store g.V.Visitor.takes g.R.Stored.row_from g.R.Stored.columns_of c.args.table first c.in-Ok.rows.conn.now
            c.args.visitor.now (c.requires (omega (arith, clean, made.survives.clean)))
            (rw (c.load_text.ensures) at (made.begun clean));
      };
    }

pub returns-in-Err-advance-clause-front : goal.returns-in-Err-advance-clause-front
returns-in-Err-advance-clause-front g c clean =
    let now = c.advance.new.self.conn.now in
    let late : HasCleanDisk (state g.S.Store now) = search rules in
    let it = step-front g.S.Store g.V.Visitor.takes g.R.Stored.row_from g.R.Stored.columns_of c.args.table c.args.conn.now c.rows.rows.conn.now
    c.advance.new.self.conn.now c.args.visitor.now c.rows.visitor c.requires
    c.rows.invariant.walks c.advance.ensures.survives
    g.V.Visitor.keeps c.rows.visitor (inl refl) late in
    search rules

pub returns-in-Err-advance-clause-failed : goal.returns-in-Err-advance-clause-failed
returns-in-Err-advance-clause-failed g c clean =
    let now = c.advance.new.self.conn.now in
    let late : HasCleanDisk (state g.S.Store now) = search rules in
    let it = step-fails g.S.Store g.V.Visitor.takes g.R.Stored.row_from g.R.Stored.columns_of c.args.table c.args.conn.now c.rows.rows.conn.now
    c.advance.new.self.conn.now c.args.visitor.now c.rows.visitor c.requires
    c.rows.invariant.walks c.advance.ensures.survives
    c.in-Err-advance.error c.in-Err-advance.ensures.err late in
    search rules

pub returns-in-Err-advance-clause-crash : goal.returns-in-Err-advance-clause-crash
returns-in-Err-advance-clause-crash g c =
    let it = step-crash g.S.Store g.V.Visitor.takes g.R.Stored.row_from g.R.Stored.columns_of c.args.table c.args.conn.now c.rows.rows.conn.now
    c.advance.new.self.conn.now c.args.visitor.now c.rows.visitor c.requires
    c.rows.invariant.walks c.advance.ensures.survives in
    search rules

pub returns-in_default-get-clause-whole : goal.returns-in_default-get-clause-whole
returns-in_default-get-clause-whole g c clean =
    let now = c.advance.new.self.conn.now in
    let late : HasCleanDisk (state g.S.Store now) = search rules in
    let it = step-all g.S.Store g.V.Visitor.takes g.R.Stored.row_from g.R.Stored.columns_of c.args.table c.args.conn.now c.rows.rows.conn.now
    c.advance.new.self.conn.now c.args.visitor.now c.rows.visitor c.requires
    c.rows.invariant.walks c.advance.ensures.survives
    c.in_default.ensures.same
    (row_if c.advance.new.self.has_row c.advance.new.self.conn.now) c.in_default.ensures.ok (sym c.in_default-get.ensures) late in
    search rules

pub returns-in_default-get-clause-same : goal.returns-in_default-get-clause-same
returns-in_default-get-clause-same g c clean =
    let now = c.advance.new.self.conn.now in
    let late : HasCleanDisk (state g.S.Store now) = search rules in
    let it = step-same g.S.Store g.V.Visitor.takes g.R.Stored.row_from g.R.Stored.columns_of c.args.table c.args.conn.now c.rows.rows.conn.now
    c.advance.new.self.conn.now c.args.visitor.now c.rows.visitor c.requires
    c.rows.invariant.walks c.advance.ensures.survives
    c.in_default.ensures.same late in
    search rules

pub returns-in_default-get-clause-crash : goal.returns-in_default-get-clause-crash
returns-in_default-get-clause-crash g c =
    let it = step-crash g.S.Store g.V.Visitor.takes g.R.Stored.row_from g.R.Stored.columns_of c.args.table c.args.conn.now c.rows.rows.conn.now
    c.advance.new.self.conn.now c.args.visitor.now c.rows.visitor c.requires
    c.rows.invariant.walks c.advance.ensures.survives in
    search rules

pub returns-in_err-read_row-clause-front : goal.returns-in_err-read_row-clause-front
returns-in_err-read_row-clause-front g c clean =
    let now = c.advance.new.self.conn.now in
    let late : HasCleanDisk (state g.S.Store now) = search rules in
    let it = step-front g.S.Store g.V.Visitor.takes g.R.Stored.row_from g.R.Stored.columns_of c.args.table c.args.conn.now c.rows.rows.conn.now
    c.advance.new.self.conn.now c.args.visitor.now c.rows.visitor c.requires
    c.rows.invariant.walks c.advance.ensures.survives
    g.V.Visitor.keeps c.rows.visitor (inl refl) late in
    search rules

pub returns-in_err-read_row-clause-failed : goal.returns-in_err-read_row-clause-failed
returns-in_err-read_row-clause-failed g c clean =
    let now = c.advance.new.self.conn.now in
    let late : HasCleanDisk (state g.S.Store now) = search rules in
    let it = step-unread g.S.Store g.V.Visitor.takes g.R.Stored.row_from g.R.Stored.columns_of c.args.table c.args.conn.now c.rows.rows.conn.now
    c.advance.new.self.conn.now c.args.visitor.now c.rows.visitor c.requires
    c.rows.invariant.walks c.advance.ensures.survives
    c.in_default.ensures.same
    (row_if c.advance.new.self.has_row c.advance.new.self.conn.now) c.in_default.ensures.ok
    c.in-Some.row.now (sym c.in-Some.ensures)
    c.in_err-read_row.field-0.0 c.in_err-read_row.ensures.failed late in
    search rules

pub returns-in_err-read_row-clause-crash : goal.returns-in_err-read_row-clause-crash
returns-in_err-read_row-clause-crash g c =
    let it = step-crash g.S.Store g.V.Visitor.takes g.R.Stored.row_from g.R.Stored.columns_of c.args.table c.args.conn.now c.rows.rows.conn.now
    c.advance.new.self.conn.now c.args.visitor.now c.rows.visitor c.requires
    c.rows.invariant.walks c.advance.ensures.survives in
    search rules

pub returns-in_err-take-clause-front : goal.returns-in_err-take-clause-front
returns-in_err-take-clause-front g c clean =
    let now = c.advance.new.self.conn.now in
    let late : HasCleanDisk (state g.S.Store now) = search rules in
    let it = step-front g.S.Store g.V.Visitor.takes g.R.Stored.row_from g.R.Stored.columns_of c.args.table c.args.conn.now c.rows.rows.conn.now
    c.advance.new.self.conn.now c.args.visitor.now c.rows.visitor c.requires
    c.rows.invariant.walks c.advance.ensures.survives
    g.V.Visitor.keeps c.take.new.self (inr c.in_err-take.ensures.keeps) late in
    search rules

pub returns-in_err-take-clause-failed : goal.returns-in_err-take-clause-failed
returns-in_err-take-clause-failed g c clean =
    let now = c.advance.new.self.conn.now in
    let late : HasCleanDisk (state g.S.Store now) = search rules in
    let it = step-same g.S.Store g.V.Visitor.takes g.R.Stored.row_from g.R.Stored.columns_of c.args.table c.args.conn.now c.rows.rows.conn.now
    c.advance.new.self.conn.now c.args.visitor.now c.rows.visitor c.requires
    c.rows.invariant.walks c.advance.ensures.survives
    c.in_default.ensures.same late in
    search rules

pub returns-in_err-take-clause-crash : goal.returns-in_err-take-clause-crash
returns-in_err-take-clause-crash g c =
    let it = step-crash g.S.Store g.V.Visitor.takes g.R.Stored.row_from g.R.Stored.columns_of c.args.table c.args.conn.now c.rows.rows.conn.now
    c.advance.new.self.conn.now c.args.visitor.now c.rows.visitor c.requires
    c.rows.invariant.walks c.advance.ensures.survives in
    search rules

pub rows-preserved : goal.rows-preserved
rows-preserved g c = record {
  same_reference = c.advance.ensures.same_reference ∙ c.rows.invariant.same_reference;
  walks =
      step-on g.S.Store g.V.Visitor.takes g.R.Stored.row_from g.R.Stored.columns_of c.args.table c.args.conn.now c.rows.rows.conn.now
      c.advance.new.self.conn.now c.args.visitor.now c.rows.visitor c.requires
      c.rows.invariant.walks c.advance.ensures.survives
      c.in_default.ensures.same
      (row_if c.advance.new.self.has_row c.advance.new.self.conn.now) c.in_default.ensures.ok
      c.in-Some.row.now (sym c.in-Some.ensures) c.in_ok-read_row.field-0 c.take.new.self
      c.in_ok-read_row.ensures.read c.in_ok-read_row.ensures.told c.in_ok-take.ensures.takes;
}

pub returns-clause-front : goal.returns-clause-front
returns-clause-front g c clean =
    let now = state g.S.Store c.rows.rows.conn.now in
    let late : HasCleanDisk now = search rules in
    let walks = c.rows.invariant.walks in
    let it =
    takes-front g.S.Store g.V.Visitor.takes g.R.Stored.row_from g.R.Stored.columns_of c.args.table (state g.S.Store c.args.conn.now)
    c.rows.rows.conn.now c.args.visitor.now c.rows.visitor
    (c.requires (omega (arith, late, walks.crash.clean))) (walks.taken late) g.V.Visitor.keeps c.rows.visitor (inl refl) in
    search rules

pub returns-clause-failed : goal.returns-clause-failed
returns-clause-failed g c clean =
    let late : HasCleanDisk (state g.S.Store c.rows.rows.conn.now) = search rules in
    let same = (c.rows.invariant.walks.taken late).same in
    search rules

pub returns-clause-crash : goal.returns-clause-crash
returns-clause-crash g c =
    let it = c.rows.invariant.walks.crash in
    search rules
