use Rattle.std.proofs.Common.{◌≡◌, ◌∙◌, ◌++◌, None, ap, refl}
use Rattle.desk_core.specs.declared.end.Stop.TheVariants.{ReadFailed, WriteFailed, Memory, Store}
use Rattle.desk_app.specs.Runs.{lines_of, run_out, taken}
use Rattle.desk_app.proofs.SheetReplies.{answers_told, left_by_group, ran_first}
use Rattle.desk_app.proofs.sheet_reply.reply_to_lines.Goals as goal

pub returns-in-Done-clause-ok : goal.returns-in-Done-clause-ok
returns-in-Done-clause-ok g c =
    let ran = c.in-Done.ensures.done c.in-Done.field-0 refl in
    let s = g.B.Books.state_in c.args.books.now in
    let lines = lines_of c.args.text.now in
    answers_told c.args.options c.args.kind s (g.B.Books.state_in c.run_lines.new.books) lines c.run_lines.new.writer.items ran.state
    (ran.written ∙ ap (λ v. v ++ run_out c.args.options.lines s 1 (taken c.args.options s lines)) c.new-answers.ensures.items)

pub returns-in-ReadFailed-clause-failed : goal.returns-in-ReadFailed-clause-failed
returns-in-ReadFailed-clause-failed g c = (
  tt,
  ran_first c.args.options ReadFailed c.args.text.now _ _ _ _
      (λ trees. (g.B.Books.failure_of c.args.books.now ≡ None) × g.B.Books.may_leave c.run_lines.new.books trees)
      (c.in-ReadFailed.ensures.stopped ReadFailed refl),
)

pub returns-in-WriteFailed-clause-failed : goal.returns-in-WriteFailed-clause-failed
returns-in-WriteFailed-clause-failed g c = (
  tt,
  ran_first c.args.options WriteFailed c.args.text.now _ _ _ _
      (λ trees. (g.B.Books.failure_of c.args.books.now ≡ None) × g.B.Books.may_leave c.run_lines.new.books trees)
      (c.in-WriteFailed.ensures.stopped WriteFailed refl),
)

pub returns-in-Memory-clause-failed : goal.returns-in-Memory-clause-failed
returns-in-Memory-clause-failed g c = (
  tt,
  ran_first c.args.options Memory c.args.text.now _ _ _ _
      (λ trees. (g.B.Books.failure_of c.args.books.now ≡ None) × g.B.Books.may_leave c.run_lines.new.books trees)
      (c.in-Memory.ensures.stopped Memory refl),
)

pub returns-in-Store-clause-failed : goal.returns-in-Store-clause-failed
returns-in-Store-clause-failed g c = (
  tt,
  ran_first c.args.options Store c.args.text.now _ _ _ _
      (λ trees. (g.B.Books.failure_of c.args.books.now ≡ None) × g.B.Books.may_leave c.run_lines.new.books trees)
      (c.in-Store.ensures.stopped Store refl),
)

pub returns-in-Store-clause-left : goal.returns-in-Store-clause-left
returns-in-Store-clause-left g c before trees there =
    left_by_group c.args.options c.args.text.now _ _ _ _
    (λ trees. (g.B.Books.failure_of c.args.books.now ≡ None) × g.B.Books.may_leave c.run_lines.new.books trees)
    trees (c.in-Store.ensures.stopped Store refl) (before, there)
