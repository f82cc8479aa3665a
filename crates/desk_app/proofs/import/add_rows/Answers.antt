use Rattle.std.proofs.Common.{arith, ◌≡◌, ◌<◌, ◌&&◌, ◌∙◌, ap, length, rules, string_bytes, sym}
use Rattle.desk_core.specs.Machine.{step}
use Rattle.desk_core.specs.declared.command.Request.{Request}
use Rattle.desk_app.specs.Runs.{IsOfBooks, by_outcome}
use Rattle.desk_app.specs.ImportRuns.{RanFront}
use Rattle.desk_core.specs.declared.end.Stop.TheVariants.{Memory}
use Rattle.desk_app.proofs.Rows.{rows_next, rows_start, rows_end, untold_front, cut_front, memory_front}
use Rattle.desk_app.proofs.Rows.{unasked_front, unkept_front, rows_same}
use Rattle.desk_app.proofs.Rows.{group_begins, left_before, left_cut, left_unkept, left_untold, left_waiting}
use Rattle.desk_app.proofs.Running.{if_err, if_err_as}
use Rattle.desk_app.proofs.import.add_rows.Goals as goal
use Rattle.desk_app.proofs.import.add_rows.Goals.{then-fine, else-fine}

pub loop-row-init : goal.loop-row-init
loop-row-init g c = record {
  running =
      rows_start c.args.rows.now (g.B.Books.state_in c.args.books.now) (string_bytes c.args.text.now) c.requires.none;
  grouping = g.met.B.Books.begin_group c.args.books.now c.requires.kept;
  count = omega arith;
  within = omega arith;
  stays_open = λ before. before;
  was_open = λ after. after;
  left = λ before trees there.
      g.met.B.Books.leave_their_tables c.args.books.now c.requires.kept before trees there;
}

pub returns-in_err-waiting-clause-cut : goal.returns-in_err-waiting-clause-cut
returns-in_err-waiting-clause-cut g c =
    let s = g.B.Books.state_in c.args.books.now in
    let s' = g.B.Books.state_in c.next_in_group.new.books in
    if_err_as (λ stop. IsOfBooks stop × RanFront c.args.rows.now s s') c.from_residual.result
    c.in_err-waiting.field-0.0 c.from_residual.ensures.1
    (unkept_front c.in_err-waiting.field-0.0 c.args.rows.now c.loop-row.row-index s
    (g.B.Books.state_in c.loop-row.books) s' (string_bytes c.loop-row.text) c.loop-row.fine
    c.loop-row.invariant.running c.in_err-waiting.ensures.store c.in_err-waiting.ensures.same)

pub returns-in_err-waiting-clause-left : goal.returns-in_err-waiting-clause-left
returns-in_err-waiting-clause-left g c before trees there =
    left_unkept c.args.rows.now c.loop-row.row-index c.loop-row.waiting (g.B.Books.state_in c.args.books.now)
    (g.B.Books.state_in c.loop-row.books) (g.B.Books.state_in c.next_in_group.new.books)
    (string_bytes c.loop-row.text) c.loop-row.fine trees c.loop-row.invariant.running
    c.in_err-waiting.ensures.same c.loop-row.invariant.within c.loop-row.invariant.count
    (c.loop-row.invariant.left before trees) (c.in_err-waiting.ensures.left trees there)

pub returns-in_err-request-clause-cut : goal.returns-in_err-request-clause-cut
returns-in_err-request-clause-cut g c =
    let s = g.B.Books.state_in c.args.books.now in
    let s' = g.B.Books.state_in c.next_in_group.new.books in
    if_err (λ stop. stop ≡ Memory) (λ stop. IsOfBooks stop × RanFront c.args.rows.now s s')
    c.from_residual-in_err-request.result
    (λ stop e. memory_front stop c.args.rows.now s s' e
    (unasked_front c.args.rows.now c.loop-row.row-index s s' (string_bytes c.loop-row.text) c.loop-row.fine
    (rows_same c.args.rows.now c.loop-row.row-index s (g.B.Books.state_in c.loop-row.books) s'
    (string_bytes c.loop-row.text) c.loop-row.fine c.in_ok-waiting.ensures.same c.loop-row.invariant.running)))
    c.from_residual-in_err-request.ensures.1

pub returns-in_err-request-clause-left : goal.returns-in_err-request-clause-left
returns-in_err-request-clause-left g c before trees there =
    left_before c.args.rows.now c.loop-row.row-index c.in_ok-waiting.waiting (g.B.Books.state_in c.args.books.now)
    (g.B.Books.state_in c.next_in_group.new.books) (string_bytes c.loop-row.text) c.loop-row.fine trees
    (rows_same c.args.rows.now c.loop-row.row-index (g.B.Books.state_in c.args.books.now)
    (g.B.Books.state_in c.loop-row.books) (g.B.Books.state_in c.next_in_group.new.books)
    (string_bytes c.loop-row.text) c.loop-row.fine c.in_ok-waiting.ensures.same c.loop-row.invariant.running)
    (c.in_ok-waiting.ensures.one.0, omega (arith, c.in_ok-waiting.ensures.one.1, c.loop-row.invariant.within))
    c.in_ok-waiting.ensures.count
    (group_begins c.args.rows.now c.loop-row.row-index c.loop-row.waiting c.in_ok-waiting.waiting
    (g.B.Books.state_in c.args.books.now) (g.B.Books.state_in c.loop-row.books)
    (g.B.Books.state_in c.next_in_group.new.books) (string_bytes c.loop-row.text) c.loop-row.fine trees
    c.loop-row.invariant.running c.in_ok-waiting.ensures.same c.loop-row.invariant.within
    (c.loop-row.invariant.left before trees) (c.in_ok-waiting.ensures.goes_on trees there))

pub returns-in_err-told-clause-cut : goal.returns-in_err-told-clause-cut
returns-in_err-told-clause-cut g c =
    let inside : c.loop-row.row-index < length c.args.rows.now = search rules in
    let s = g.B.Books.state_in c.args.books.now in
    let s' = g.B.Books.state_in c.next_in_group.new.books in
    let s'' = g.B.Books.state_in c.tell_outcome.new.books in
    if_err_as (λ stop. IsOfBooks stop × RanFront c.args.rows.now s s'') c.from_residual-in_err-told.result
    c.in_err-told.field-0.0 c.from_residual-in_err-told.ensures.1
    (cut_front c.in_err-told.field-0.0 c.args.rows.now c.loop-row.row-index c.row-item.result s s' s''
    (string_bytes c.loop-row.text) c.loop-row.fine inside c.row-item.is
    (rows_same c.args.rows.now c.loop-row.row-index s (g.B.Books.state_in c.loop-row.books) s'
    (string_bytes c.loop-row.text) c.loop-row.fine c.in_ok-waiting.ensures.same c.loop-row.invariant.running)
    (rw c.in_ok-request.ensures at c.in_err-told.ensures.cut))

pub returns-in_err-told-clause-left : goal.returns-in_err-told-clause-left
returns-in_err-told-clause-left g c before trees there =
    let inside : c.loop-row.row-index < length c.args.rows.now = search rules in
    left_cut c.in_err-told.field-0.0 c.args.rows.now c.loop-row.row-index c.in_ok-waiting.waiting c.row-item.result
    (g.B.Books.state_in c.args.books.now) (g.B.Books.state_in c.next_in_group.new.books)
    (g.B.Books.state_in c.tell_outcome.new.books) (string_bytes c.loop-row.text) c.loop-row.fine trees inside
    c.row-item.is
    (rows_same c.args.rows.now c.loop-row.row-index (g.B.Books.state_in c.args.books.now)
    (g.B.Books.state_in c.loop-row.books) (g.B.Books.state_in c.next_in_group.new.books)
    (string_bytes c.loop-row.text) c.loop-row.fine c.in_ok-waiting.ensures.same c.loop-row.invariant.running)
    (c.in_ok-waiting.ensures.one.0, omega (arith, c.in_ok-waiting.ensures.one.1, c.loop-row.invariant.within))
    c.in_ok-waiting.ensures.count
    (rw c.in_ok-request.ensures at c.in_err-told.ensures.cut)
    (group_begins c.args.rows.now c.loop-row.row-index c.loop-row.waiting c.in_ok-waiting.waiting
    (g.B.Books.state_in c.args.books.now) (g.B.Books.state_in c.loop-row.books)
    (g.B.Books.state_in c.next_in_group.new.books) (string_bytes c.loop-row.text) c.loop-row.fine trees
    c.loop-row.invariant.running c.in_ok-waiting.ensures.same c.loop-row.invariant.within
    (c.loop-row.invariant.left before trees) (c.in_ok-waiting.ensures.goes_on trees (c.in_err-told.ensures.left trees there)))

pub returns-in_err-push_report_line-clause-cut : goal.returns-in_err-push_report_line-clause-cut
returns-in_err-push_report_line-clause-cut g c =
    let inside : c.loop-row.row-index < length c.args.rows.now = search rules in
    let s = g.B.Books.state_in c.args.books.now in
    let s' = g.B.Books.state_in c.next_in_group.new.books in
    let s'' = g.B.Books.state_in c.tell_outcome.new.books in
    if_err (λ stop. stop ≡ Memory) (λ stop. IsOfBooks stop × RanFront c.args.rows.now s s'')
    c.from_residual-in_err-push_report_line.result
    (λ stop e. memory_front stop c.args.rows.now s s'' e
    (untold_front c.args.rows.now c.loop-row.row-index c.row-item.result s s' s''
    (string_bytes c.loop-row.text) (string_bytes c.in_ok-told.told.text) c.loop-row.fine c.in_ok-told.told.fine inside
    c.row-item.is
    (rows_same c.args.rows.now c.loop-row.row-index s (g.B.Books.state_in c.loop-row.books) s'
    (string_bytes c.loop-row.text) c.loop-row.fine c.in_ok-waiting.ensures.same c.loop-row.invariant.running)
    (sym (ap (λ (r : Request). by_outcome (step s' r)) c.in_ok-request.ensures) ∙ c.in_ok-told.ensures.ok)))
    c.from_residual-in_err-push_report_line.ensures.1

pub returns-in_err-push_report_line-clause-left : goal.returns-in_err-push_report_line-clause-left
returns-in_err-push_report_line-clause-left g c before trees there =
    let inside : c.loop-row.row-index < length c.args.rows.now = search rules in
    let s' = g.B.Books.state_in c.next_in_group.new.books in
    left_untold c.args.rows.now c.loop-row.row-index c.in_ok-waiting.waiting c.row-item.result
    (g.B.Books.state_in c.args.books.now) s' (g.B.Books.state_in c.tell_outcome.new.books)
    (string_bytes c.loop-row.text) (string_bytes c.in_ok-told.told.text) c.loop-row.fine c.in_ok-told.told.fine trees
    inside c.row-item.is
    (rows_same c.args.rows.now c.loop-row.row-index (g.B.Books.state_in c.args.books.now)
    (g.B.Books.state_in c.loop-row.books) (g.B.Books.state_in c.next_in_group.new.books)
    (string_bytes c.loop-row.text) c.loop-row.fine c.in_ok-waiting.ensures.same c.loop-row.invariant.running)
    (c.in_ok-waiting.ensures.one.0, omega (arith, c.in_ok-waiting.ensures.one.1, c.loop-row.invariant.within))
    c.in_ok-waiting.ensures.count
    (sym (ap (λ (r : Request). by_outcome (step s' r)) c.in_ok-request.ensures) ∙ c.in_ok-told.ensures.ok)
    (group_begins c.args.rows.now c.loop-row.row-index c.loop-row.waiting c.in_ok-waiting.waiting
    (g.B.Books.state_in c.args.books.now) (g.B.Books.state_in c.loop-row.books)
    (g.B.Books.state_in c.next_in_group.new.books) (string_bytes c.loop-row.text) c.loop-row.fine trees
    c.loop-row.invariant.running c.in_ok-waiting.ensures.same c.loop-row.invariant.within
    (c.loop-row.invariant.left before trees) (c.in_ok-waiting.ensures.goes_on trees (c.in_ok-told.ensures.left trees there)))

pub loop-row-preserved : goal.loop-row-preserved
loop-row-preserved g c =
    let inside : c.loop-row.row-index < length c.args.rows.now = search rules in
    let line = rw (c.number-in-loop-row.ensures, c.as_str.ensures.value) at c.in_ok-push_report_line.ensures in
    let all : c.if-fine.fine ≡ (c.loop-row.fine && c.in_ok-told.told.fine) =
    elim c.if-fine.branch [
      | then-fine w ↦ rw w.if-fine.true w.fine-is
      | else-fine w ↦ rw w.if-fine.false (w.fine-is ∙ w.if-fine.false)
    ] in
    let s = g.B.Books.state_in c.args.books.now in
    let s' = g.B.Books.state_in c.next_in_group.new.books in
    record {
      running = rows_next c.args.rows.now c.loop-row.row-index c.row-item.result s s'
          (g.B.Books.state_in c.tell_outcome.new.books)
          (string_bytes c.loop-row.text) (string_bytes c.push_report_line.new.text)
          (string_bytes c.in_ok-told.told.text)
          c.loop-row.fine c.if-fine.fine c.in_ok-told.told.fine inside c.row-item.is
          (rows_same c.args.rows.now c.loop-row.row-index s (g.B.Books.state_in c.loop-row.books) s'
          (string_bytes c.loop-row.text) c.loop-row.fine c.in_ok-waiting.ensures.same
          c.loop-row.invariant.running)
          (sym (ap (λ (r : Request). by_outcome (step s' r)) c.in_ok-request.ensures) ∙ c.in_ok-told.ensures.ok) line
          all;
      grouping = c.in_ok-told.ensures.grouping;
      count = c.in_ok-waiting.ensures.count;
      within = omega (arith, c.in_ok-waiting.ensures.one.1, c.loop-row.invariant.within);
      stays_open = λ before.
          c.in_ok-told.ensures.stays_open
          (c.in_ok-waiting.ensures.stays_open (c.loop-row.invariant.stays_open before));
      was_open = λ _.
          c.loop-row.invariant.was_open
          (c.in_ok-waiting.ensures.was_open c.in_ok-told.ensures.ends_open.0);
      left = λ before trees there.
          group_begins c.args.rows.now c.loop-row.row-index c.loop-row.waiting c.in_ok-waiting.waiting
          (g.B.Books.state_in c.args.books.now) (g.B.Books.state_in c.loop-row.books)
          (g.B.Books.state_in c.next_in_group.new.books) (string_bytes c.loop-row.text) c.loop-row.fine trees
          c.loop-row.invariant.running c.in_ok-waiting.ensures.same c.loop-row.invariant.within
          (c.loop-row.invariant.left before trees) (c.in_ok-waiting.ensures.goes_on trees (c.in_ok-told.ensures.left trees there));
    }

pub returns-clause-ok : goal.returns-clause-ok
returns-clause-ok g c =
    rows_end c.args.rows.now c.loop-row.row-index (g.B.Books.state_in c.args.books.now)
    (g.B.Books.state_in c.loop-row.books) (string_bytes c.loop-row.text) c.loop-row.fine
    c.loop-row.invariant.running (omega arith)

pub returns-clause-left : goal.returns-clause-left
returns-clause-left g c before trees there =
    left_waiting c.args.rows.now c.loop-row.row-index c.loop-row.waiting (g.B.Books.state_in c.args.books.now)
    (g.B.Books.state_in c.loop-row.books) (string_bytes c.loop-row.text) c.loop-row.fine trees
    c.loop-row.invariant.running c.loop-row.invariant.within c.loop-row.invariant.count
    (c.loop-row.invariant.left before trees there)
