use Rattle.desk_app.specs.Services.{rows_sent}
use Rattle.desk_app.proofs.Rows.{left_alone}
use Rattle.desk_app.proofs.service.reply_to_named_file.Goals as goal

pub returns-in-Err-clause-left : goal.returns-in-Err-clause-left
returns-in-Err-clause-left g c before trees there =
    left_alone (rows_sent c.args.names (g.B.Books.state_in c.args.books.now) c.args.said.now.loose c.args.said.now.kind
    c.args.said.now.document.now c.args.said.now.day c.args.rows.now)
    (g.B.Books.state_in c.args.books.now) trees
    (g.met.B.Books.leave_their_tables c.args.books.now c.requires.kept before trees there)
