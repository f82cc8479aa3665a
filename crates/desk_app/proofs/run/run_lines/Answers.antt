use Rattle.desk_app.proofs.Answered.{answered_finished, answered_stopped, open_but_store}
use Rattle.desk_app.proofs.run.run_lines.Goals as goal

pub returns-in-Ok-clause-answered : goal.returns-in-Ok-clause-answered
returns-in-Ok-clause-answered g c =
    answered_finished c.args.options (g.R.Read.remaining c.args.reader.now)
    (g.W.Write.contents c.args.writer.now)
    (g.W.Write.contents c.answer_all.new.writer) (g.B.Books.state_in c.args.books.now)
    (g.B.Books.state_in c.answer_all.new.books) c.in-Ok.all _ c.in-Ok.ensures.done
    (λ trees may.
    g.met.B.Books.leave_their_tables c.answer_all.new.books c.answer_all.ensures.kept c.in-Ok.ensures.ends_open.1
    trees may.1)

pub returns-in-Err-clause-answered : goal.returns-in-Err-clause-answered
returns-in-Err-clause-answered g c =
    answered_stopped c.args.options c.in-Err.why (g.R.Read.remaining c.args.reader.now)
    (g.W.Write.contents c.args.writer.now)
    (g.W.Write.contents c.answer_all.new.writer) (g.B.Books.state_in c.args.books.now)
    (g.B.Books.state_in c.answer_all.new.books) _ c.in-Err.ensures.stopped
    (λ apart trees may.
    g.met.B.Books.leave_their_tables c.answer_all.new.books c.answer_all.ensures.kept
    (open_but_store (g.B.Books.failure_of c.args.books.now) (g.B.Books.failure_of c.answer_all.new.books)
    c.in-Err.why c.in-Err.ensures.ends_open apart)
    trees may.1)
