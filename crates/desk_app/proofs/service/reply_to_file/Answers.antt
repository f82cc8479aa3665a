use Rattle.desk_app.specs.ImportRuns.{file_rows, shown_import}
use Rattle.desk_app.proofs.Rows.{left_alone}
use Rattle.desk_app.proofs.service.reply_to_file.Goals as goal

pub returns-in-Err-Memory-clause-left : goal.returns-in-Err-Memory-clause-left
returns-in-Err-Memory-clause-left g c before trees there =
    left_alone (file_rows (shown_import c.args.asked.now) (g.B.Books.state_in c.args.books.now) c.args.rows.now)
    (g.B.Books.state_in c.args.books.now) trees
    (g.met.B.Books.leave_their_tables c.args.books.now c.requires before trees there)
