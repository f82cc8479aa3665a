use Rattle.std.proofs.Common.{◌∙◌}
use Rattle.desk_app.proofs.Rows.{stays_but_store}
use Rattle.desk_app.proofs.import.import_file.Goals as goal

pub returns-in-Ok-clause-left : goal.returns-in-Ok-clause-left
returns-in-Ok-clause-left g c before apart trees there =
    g.met.B.Books.leave_their_tables c.import_all.new.books c.import_all.ensures.kept
    (c.in-Ok.ensures.stays_open before) trees there

pub returns-in-Err-clause-left : goal.returns-in-Err-clause-left
returns-in-Err-clause-left g c before apart trees there =
    g.met.B.Books.leave_their_tables c.import_all.new.books c.import_all.ensures.kept
    (stays_but_store (g.B.Books.failure_of c.args.books.now) (g.B.Books.failure_of c.import_all.new.books)
    c.in-Err.stop c.in-Err.ensures.stays_open (λ e. apart (c.end.ensures ∙ e)) before)
    trees there
