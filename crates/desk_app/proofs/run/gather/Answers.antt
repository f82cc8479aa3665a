use Rattle.std.proofs.Common.{◌≡◌, ◌+◌, ◌&&◌, ◌∙◌, true, false, refl, sym, inl, inr}
use Rattle.std.specs.Prelude.{None}
use Rattle.desk_app.specs.Cuts.{left}
use Rattle.desk_app.specs.Runs.{is_fine, Halts, IsOfSettling}
use Rattle.desk_core.specs.declared.end.Stop.TheVariants.{Memory, ReadFailed, WriteFailed}
use Rattle.desk_app.proofs.Running.{Running, running_due, running_line, running_start, kept_start, gathered}
use Rattle.desk_app.proofs.Running.{gathered_there, halting, halts_line}
use Rattle.desk_app.proofs.Running.{halts_reading, halts_start, halts_unsettled, if_err, if_err_as, line_settles, line_writes}
use Rattle.desk_app.proofs.Running.{reading_settles, reading_writes, stays_reading}
use Rattle.desk_app.proofs.run.gather.Given.{Over}
use Rattle.desk_app.proofs.run.gather.Goals as goal
use Rattle.desk_app.proofs.run.gather.Goals.{Joined-all, then-all, else-all}
use Rattle.desk_app.proofs.run.gather.Goals.{else-options-via-then-options+else-not-all, else-options-via-else-options}

pub returns-in_err-lines-clause-stopped : goal.returns-in_err-lines-clause-stopped
returns-in_err-lines-clause-stopped g c =
    if_err (λ stop. stop ≡ Memory)
    (λ why. Halts c.args.options why (g.R.Read.remaining c.args.reader.now)
    (g.W.Write.contents c.args.writer.now)
    (g.W.Write.contents c.args.writer.now) (g.B.Books.state_in c.args.books.now) (g.B.Books.state_in c.args.books.now)
    c.args.text.now.items
    (λ trees. (g.B.Books.failure_of c.args.books.now ≡ None) × g.B.Books.may_leave c.args.books.now trees))
    c.from_residual.result
    (λ why e. halts_start c.args.options why (g.R.Read.remaining c.args.reader.now)
    (g.W.Write.contents c.args.writer.now)
    (g.B.Books.state_in c.args.books.now) c.args.text.now.items _ e c.requires.none
    (λ trees may. g.met.B.Books.leave_their_tables c.args.books.now c.requires.kept may.0 trees may.1))
    c.from_residual.ensures.1

pub loop-number-init : goal.loop-number-init
loop-number-init g c = record {
  running =
      running_start c.args.options (g.R.Read.remaining c.args.reader.now) _
      (g.W.Write.contents c.args.writer.now)
      (g.B.Books.state_in c.args.books.now) c.args.text.now.items _
      (kept_start (g.R.Read.remaining c.args.reader.now) _ c.in_ok-lines.ensures.empty) c.requires.none
      (λ trees may. g.met.B.Books.leave_their_tables c.args.books.now c.requires.kept may.0 trees may.1);
  going = λ stops. refl;
  grouping = g.met.B.Books.begin_group c.args.books.now c.requires.kept;
  stays_open = λ before. before;
  was_open = λ after. after;
}

pub returns-in_err-settle_if_due-clause-stopped : goal.returns-in_err-settle_if_due-clause-stopped
returns-in_err-settle_if_due-clause-stopped g c =
    if_err_as
    (λ why. Halts c.args.options why (g.R.Read.remaining c.args.reader.now)
    (g.W.Write.contents c.args.writer.now)
    (g.W.Write.contents c.settle_if_due.new.writer) (g.B.Books.state_in c.args.books.now)
    (g.B.Books.state_in c.settle_if_due.new.books) c.settle_if_due.new.text.items
    (λ trees. (g.B.Books.failure_of c.args.books.now ≡ None) × g.B.Books.may_leave c.settle_if_due.new.books trees))
    c.from_residual-in_err-settle_if_due.result c.in_err-settle_if_due.field-0.0
    c.from_residual-in_err-settle_if_due.ensures.1
    (halts_unsettled c.args.options c.in_err-settle_if_due.field-0.0 (g.R.Read.remaining c.args.reader.now) _
    (g.W.Write.contents c.args.writer.now) (g.W.Write.contents c.loop-number.writer)
    (g.W.Write.contents c.settle_if_due.new.writer) (g.B.Books.state_in c.args.books.now)
    (g.B.Books.state_in c.loop-number.books) (g.B.Books.state_in c.settle_if_due.new.books)
    c.loop-number.number c.loop-number.all c.loop-number.text.items _ _ _ c.loop-number.invariant.running
    c.in_err-settle_if_due.ensures.cut c.in_err-settle_if_due.ensures.same
    (λ trees may. elim (c.in_err-settle_if_due.ensures.left trees may.1) [
      | inl before ↦ inl (may.0, before)
      | inr after ↦ inr after
    ]))

pub returns-in_err-settle_if_due-clause-kept : goal.returns-in_err-settle_if_due-clause-kept
returns-in_err-settle_if_due-clause-kept g c =
    if_err_as (λ stop. IsOfSettling stop → g.B.Books.are_kept c.settle_if_due.new.books)
    c.from_residual-in_err-settle_if_due.result c.in_err-settle_if_due.field-0.0
    c.from_residual-in_err-settle_if_due.ensures.1 (λ settles. c.in_err-settle_if_due.ensures.kept)

pub returns-in_err-next_line-clause-stopped : goal.returns-in_err-next_line-clause-stopped
returns-in_err-next_line-clause-stopped g c =
    if_err_as
    (λ why. Halts c.args.options why (g.R.Read.remaining c.args.reader.now)
    (g.W.Write.contents c.args.writer.now)
    (g.W.Write.contents c.settle_if_due.new.writer) (g.B.Books.state_in c.args.books.now)
    (g.B.Books.state_in c.settle_if_due.new.books) c.settle_if_due.new.text.items
    (λ trees. (g.B.Books.failure_of c.args.books.now ≡ None) × g.B.Books.may_leave c.settle_if_due.new.books trees))
    c.from_residual-in_err-next_line.result c.in_err-next_line.field-0.0 c.from_residual-in_err-next_line.ensures.1
    (halts_reading c.args.options c.in_err-next_line.field-0.0 (g.R.Read.remaining c.args.reader.now) _
    (g.W.Write.contents c.args.writer.now) (g.W.Write.contents c.settle_if_due.new.writer)
    (g.B.Books.state_in c.args.books.now) (g.B.Books.state_in c.settle_if_due.new.books) c.loop-number.number
    c.loop-number.all c.settle_if_due.new.text.items _ c.in_err-next_line.ensures.reading
    (running_due c.args.options g.B.Books.state_in g.B.Books.are_kept g.B.Books.failure_of g.B.Books.may_leave
    g.met.B.Books.leave_their_tables (g.B.Books.failure_of c.args.books.now) _ _ _ _ _ _ _ _ _ _ _ _
    c.loop-number.invariant.running c.in_ok-settle_if_due.ensures.ok
    (λ before. c.in_ok-settle_if_due.ensures.stays_open (c.loop-number.invariant.stays_open before))))

pub returns-in_err-next_line-clause-kept : goal.returns-in_err-next_line-clause-kept
returns-in_err-next_line-clause-kept g c =
    if_err_as (λ stop. IsOfSettling stop → g.B.Books.are_kept c.settle_if_due.new.books)
    c.from_residual-in_err-next_line.result c.in_err-next_line.field-0.0 c.from_residual-in_err-next_line.ensures.1
    (λ settles.
    absurd (reading_settles c.in_err-next_line.field-0.0 c.in_err-next_line.ensures.reading settles))

pub returns-in_err-next_line-clause-stays_open : goal.returns-in_err-next_line-clause-stays_open
returns-in_err-next_line-clause-stays_open g c =
    stays_reading (g.B.Books.failure_of c.args.books.now) (g.B.Books.failure_of c.settle_if_due.new.books)
    c.from_residual-in_err-next_line.result c.in_err-next_line.field-0.0
    c.from_residual-in_err-next_line.ensures.1 c.in_err-next_line.ensures.reading
    (λ before. c.in_ok-settle_if_due.ensures.stays_open (c.loop-number.invariant.stays_open before))

pub returns-then-not-branch-clause-done : goal.returns-then-not-branch-clause-done
returns-then-not-branch-clause-done g c =
    let takes = rw c.if-not-branch.true at c.in_ok-next_line.ensures.takes in
    gathered c.args.options (g.R.Read.remaining c.args.reader.now) _
    (left (g.R.Read.remaining c.next_line.new.reader) c.next_line.new.self)
    (g.W.Write.contents c.args.writer.now) (g.W.Write.contents c.settle_if_due.new.writer)
    (g.B.Books.state_in c.args.books.now) (g.B.Books.state_in c.settle_if_due.new.books) c.loop-number.number
    c.loop-number.all c.next_line.new.line.items c.settle_if_due.new.text.items _
    (running_due c.args.options g.B.Books.state_in g.B.Books.are_kept g.B.Books.failure_of g.B.Books.may_leave
    g.met.B.Books.leave_their_tables (g.B.Books.failure_of c.args.books.now) _ _ _ _ _ _ _ _ _ _ _ _
    c.loop-number.invariant.running c.in_ok-settle_if_due.ensures.ok
    (λ before. c.in_ok-settle_if_due.ensures.stays_open (c.loop-number.invariant.stays_open before)))
    takes

pub returns-in_err-fine-clause-stopped : goal.returns-in_err-fine-clause-stopped
returns-in_err-fine-clause-stopped g c =
    let takes = rw c.if-not-branch.false at c.in_ok-next_line.ensures.takes in
    let cut = rw c.deref.ensures.value at c.in_err-fine.ensures.cut in
    if_err_as
    (λ why. Halts c.args.options why (g.R.Read.remaining c.args.reader.now)
    (g.W.Write.contents c.args.writer.now)
    (g.W.Write.contents c.settle_if_due.new.writer) (g.B.Books.state_in c.args.books.now)
    (g.B.Books.state_in c.add_line.new.books) c.add_line.new.text.items
    (λ trees. (g.B.Books.failure_of c.args.books.now ≡ None) × g.B.Books.may_leave c.add_line.new.books trees))
    c.from_residual-in_err-fine.result c.in_err-fine.field-0.0 c.from_residual-in_err-fine.ensures.1
    (halts_line c.args.options c.in_err-fine.field-0.0 (g.R.Read.remaining c.args.reader.now) _
    (left (g.R.Read.remaining c.next_line.new.reader) c.next_line.new.self)
    (g.W.Write.contents c.args.writer.now) (g.W.Write.contents c.settle_if_due.new.writer)
    (g.B.Books.state_in c.args.books.now) (g.B.Books.state_in c.settle_if_due.new.books)
    (g.B.Books.state_in c.add_line.new.books) c.loop-number.number c.loop-number.all c.next_line.new.line.items
    c.settle_if_due.new.text.items c.add_line.new.text.items _ _
    (running_due c.args.options g.B.Books.state_in g.B.Books.are_kept g.B.Books.failure_of g.B.Books.may_leave
    g.met.B.Books.leave_their_tables (g.B.Books.failure_of c.args.books.now) _ _ _ _ _ _ _ _ _ _ _ _
    c.loop-number.invariant.running c.in_ok-settle_if_due.ensures.ok
    (λ before. c.in_ok-settle_if_due.ensures.stays_open (c.loop-number.invariant.stays_open before)))
    takes cut c.in_err-fine.ensures.unanswered
    (λ trees may. (may.0, c.in_err-fine.ensures.left trees may.1)) c.loop-number.invariant.going
    c.in_ok-settle_if_due.ensures.bounded)

pub returns-in_err-fine-clause-kept : goal.returns-in_err-fine-clause-kept
returns-in_err-fine-clause-kept g c =
    let cut = rw c.deref.ensures.value at c.in_err-fine.ensures.cut in
    if_err_as (λ stop. IsOfSettling stop → g.B.Books.are_kept c.add_line.new.books)
    c.from_residual-in_err-fine.result c.in_err-fine.field-0.0 c.from_residual-in_err-fine.ensures.1
    (line_settles c.args.options.lines c.in_err-fine.field-0.0 (g.B.Books.state_in c.settle_if_due.new.books)
    (g.B.Books.state_in c.add_line.new.books) c.loop-number.number c.next_line.new.line.items
    (g.B.Books.failure_of c.settle_if_due.new.books) (g.B.Books.failure_of c.add_line.new.books) cut
    c.in_err-fine.ensures.stays_open
    (λ shut. g.met.B.Books.closed_are_kept c.add_line.new.books c.in_err-fine.ensures.grouping shut))

-- the run after the line that was taken
ran_line : (g : Over) (c : Joined-all g)
    → Running c.args.options (g.R.Read.remaining c.args.reader.now)
    (left (g.R.Read.remaining c.next_line.new.reader) c.next_line.new.self) (g.W.Write.contents c.args.writer.now)
    (g.W.Write.contents c.settle_if_due.new.writer) (g.B.Books.state_in c.args.books.now)
    (g.B.Books.state_in c.add_line.new.books) (c.loop-number.number + 1) c.if-all.all c.add_line.new.text.items
    (λ trees. (g.B.Books.failure_of c.args.books.now ≡ None) × g.B.Books.may_leave c.add_line.new.books trees)
ran_line g c =
    let takes = rw c.if-not-branch.false at c.in_ok-next_line.ensures.takes in
    let ok = rw c.deref.ensures.value at c.in_ok-fine.ensures.ok in
    let out = rw c.deref.ensures.value at c.in_ok-fine.ensures.text in
    let fine = rw c.deref.ensures.value at c.in_ok-fine.ensures.fine in
    let both : c.if-all.all ≡ (c.loop-number.all
    && is_fine c.args.options.lines
    (g.B.Books.state_in c.settle_if_due.new.books) c.loop-number.number c.next_line.new.line.items) =
    elim c.if-all.branch [
      | then-all w ↦ rw w.if-all.true (w.all-is ∙ fine)
      | else-all w ↦ rw w.if-all.false (w.all-is ∙ w.if-all.false)
    ] in
    running_line c.args.options (g.R.Read.remaining c.args.reader.now) _
    (left (g.R.Read.remaining c.next_line.new.reader) c.next_line.new.self)
    (g.W.Write.contents c.args.writer.now) (g.W.Write.contents c.settle_if_due.new.writer)
    (g.B.Books.state_in c.args.books.now) (g.B.Books.state_in c.settle_if_due.new.books)
    (g.B.Books.state_in c.add_line.new.books) c.loop-number.number c.loop-number.all c.if-all.all
    c.next_line.new.line.items c.settle_if_due.new.text.items c.add_line.new.text.items _ _
    (running_due c.args.options g.B.Books.state_in g.B.Books.are_kept g.B.Books.failure_of g.B.Books.may_leave
    g.met.B.Books.leave_their_tables (g.B.Books.failure_of c.args.books.now) _ _ _ _ _ _ _ _ _ _ _ _
    c.loop-number.invariant.running c.in_ok-settle_if_due.ensures.ok
    (λ before. c.in_ok-settle_if_due.ensures.stays_open (c.loop-number.invariant.stays_open before)))
    takes ok out both
    (λ trees may. (may.0, c.in_ok-fine.ensures.left trees may.1)) c.loop-number.invariant.going
    c.in_ok-settle_if_due.ensures.bounded

pub returns-then-not-all-clause-done : goal.returns-then-not-all-clause-done
returns-then-not-all-clause-done g c =
    gathered_there c.args.options _ _ _ _ _ _ _ _ _ _
    (ran_line g (goal.at.returns-then-not-all-clause-done g c).Joined-all) c.if-options.true c.if-not-all.true

pub returns-then-not-all-clause-stays_open : goal.returns-then-not-all-clause-stays_open
returns-then-not-all-clause-stays_open g c before =
    c.in_ok-fine.ensures.stays_open
    (c.in_ok-settle_if_due.ensures.stays_open (c.loop-number.invariant.stays_open before))

pub returns-then-not-all-clause-was_open : goal.returns-then-not-all-clause-was_open
returns-then-not-all-clause-was_open g c after =
    c.loop-number.invariant.was_open
    (c.in_ok-settle_if_due.ensures.was_open (c.in_ok-fine.ensures.was_open after))

pub loop-number-preserved : goal.loop-number-preserved
loop-number-preserved g c =
    record {
      running = ran_line g (goal.at.loop-number-preserved g c).Joined-all;
      going = λ stops. elim c.else-options.branch [
        | else-options-via-then-options+else-not-all w ↦ w.if-not-all.false
        | else-options-via-else-options w ↦ absurd (let e : true ≡ false = sym stops ∙ w.if-options.false in cc)
      ];
      grouping = c.in_ok-fine.ensures.grouping;
      stays_open = λ before.
          c.in_ok-fine.ensures.stays_open
          (c.in_ok-settle_if_due.ensures.stays_open (c.loop-number.invariant.stays_open before));
      was_open = λ after.
          c.loop-number.invariant.was_open
          (c.in_ok-settle_if_due.ensures.was_open (c.in_ok-fine.ensures.was_open after));
    }

pub returns-clause-stopped : goal.returns-clause-stopped
returns-clause-stopped g c = halting c.args.options _ _ _ _ _ _ _ _ _ _ c.loop-number.invariant.running

pub returns-clause-kept : goal.returns-clause-kept
returns-clause-kept g c settles = absurd settles

pub returns-in_err-lines-clause-open : goal.returns-in_err-lines-clause-open
returns-in_err-lines-clause-open g c =
    if_err (λ stop. stop ≡ Memory) (λ stop. stop ≡ WriteFailed → g.B.Books.failure_of c.args.books.now ≡ None)
    c.from_residual.result (λ stop e is. absurd (let both : Memory ≡ WriteFailed = sym e ∙ is in cc))
    c.from_residual.ensures.1

pub returns-in_err-settle_if_due-clause-open : goal.returns-in_err-settle_if_due-clause-open
returns-in_err-settle_if_due-clause-open g c =
    if_err_as (λ stop. stop ≡ WriteFailed → g.B.Books.failure_of c.settle_if_due.new.books ≡ None)
    c.from_residual-in_err-settle_if_due.result c.in_err-settle_if_due.field-0.0
    c.from_residual-in_err-settle_if_due.ensures.1 c.in_err-settle_if_due.ensures.open

pub returns-in_err-next_line-clause-open : goal.returns-in_err-next_line-clause-open
returns-in_err-next_line-clause-open g c =
    if_err_as (λ stop. stop ≡ WriteFailed → g.B.Books.failure_of c.settle_if_due.new.books ≡ None)
    c.from_residual-in_err-next_line.result c.in_err-next_line.field-0.0 c.from_residual-in_err-next_line.ensures.1
    (reading_writes c.in_err-next_line.field-0.0 c.in_err-next_line.ensures.reading)

pub returns-in_err-fine-clause-open : goal.returns-in_err-fine-clause-open
returns-in_err-fine-clause-open g c =
    let cut = rw c.deref.ensures.value at c.in_err-fine.ensures.cut in
    if_err_as (λ stop. stop ≡ WriteFailed → g.B.Books.failure_of c.add_line.new.books ≡ None)
    c.from_residual-in_err-fine.result c.in_err-fine.field-0.0 c.from_residual-in_err-fine.ensures.1
    (line_writes c.args.options.lines c.in_err-fine.field-0.0 (g.B.Books.state_in c.settle_if_due.new.books)
    (g.B.Books.state_in c.add_line.new.books) c.loop-number.number c.next_line.new.line.items cut)

pub returns-clause-open : goal.returns-clause-open
returns-clause-open g c is = absurd (let e : ReadFailed ≡ WriteFailed = is in cc)
