use Rattle.std.specs.Prelude.{Some}
use Rattle.desk_store.proofs.Grouping.{none_is_some}
use Rattle.desk_app.proofs.Checking.{unanswered, unrun_closed, unrun_for_memory}
use Rattle.desk_app.proofs.checked.run_text.Goals as goal

pub returns-in-Err-clause-stopped : goal.returns-in-Err-clause-stopped
returns-in-Err-clause-stopped g c = λ readable why is.
    unrun_closed c.args.options why (Some c.args.bytes.now) (g.W.Write.contents c.args.writer.now)
    (g.B.Books.state_in c.args.books.now) _ is
    (λ trees may. none_is_some (g.B.Books.failure_of c.args.books.now) may.0 c.in-Err.ensures.closed)

pub returns-in-Err-clause-answered : goal.returns-in-Err-clause-answered
returns-in-Err-clause-answered g c = λ readable.
    unanswered c.args.options (Some c.args.bytes.now) (g.W.Write.contents c.args.writer.now)
    (g.B.Books.state_in c.args.books.now) _
    (λ trees may. absurd (none_is_some (g.B.Books.failure_of c.args.books.now) may.0 c.in-Err.ensures.closed))

pub returns-in-Err-faults_of_lines-clause-stopped : goal.returns-in-Err-faults_of_lines-clause-stopped
returns-in-Err-faults_of_lines-clause-stopped g c = λ readable why is.
    unrun_for_memory c.args.options why (Some c.args.bytes.now) (g.W.Write.contents c.args.writer.now)
    (g.B.Books.state_in c.args.books.now) _ is

pub returns-in-Err-faults_of_lines-clause-answered : goal.returns-in-Err-faults_of_lines-clause-answered
returns-in-Err-faults_of_lines-clause-answered g c = λ readable.
    unanswered c.args.options (Some c.args.bytes.now) (g.W.Write.contents c.args.writer.now)
    (g.B.Books.state_in c.args.books.now) _
    (λ trees may. g.met.B.Books.leave_their_tables c.args.books.now c.requires may.0 trees may.1)
