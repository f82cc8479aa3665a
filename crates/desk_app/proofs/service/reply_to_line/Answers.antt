use Rattle.std.proofs.Common.{◌≡◌, subst}
use Rattle.std.specs.Prelude.{Option, Ok}
use Rattle.desk_core.specs.Naming.{Naming}
use Rattle.desk_wire.specs.Reading.{request}
use Rattle.desk_app.proofs.Replies.{failed_by_line, left_by_line}
use Rattle.desk_app.proofs.service.reply_to_line.Goals as goal

pub returns-in-Ok-read_request-clause-left : goal.returns-in-Ok-read_request-clause-left
returns-in-Ok-read_request-clause-left g c before trees there =
    let is =
    subst (λ (o : Option Naming). request o c.args.line.now ≡ Ok c.in-Ok-read_request.request)
    c.in-Ok.ensures.naming c.in-Ok-read_request.ensures in
    left_by_line c.reply_to_given.result c.args.options (g.B.Books.state_in c.args.books.now)
    (g.B.Books.state_in c.reply_to_given.new.books) c.args.line.now c.in-Ok-read_request.request trees
    (g.B.Books.failure_of c.args.books.now) (g.B.Books.failure_of c.reply_to_given.new.books) is
    c.reply_to_given.ensures.stays_open c.reply_to_given.ensures.failed before
    (λ none. g.met.B.Books.leave_their_tables c.reply_to_given.new.books c.reply_to_given.ensures.kept none trees
    there)
    (c.reply_to_given.ensures.left before trees there)

pub returns-in-Ok-read_request-clause-failed : goal.returns-in-Ok-read_request-clause-failed
returns-in-Ok-read_request-clause-failed g c =
    let is =
    subst (λ (o : Option Naming). request o c.args.line.now ≡ Ok c.in-Ok-read_request.request)
    c.in-Ok.ensures.naming c.in-Ok-read_request.ensures in
    failed_by_line c.reply_to_given.result c.args.options (g.B.Books.state_in c.args.books.now)
    (g.B.Books.state_in c.reply_to_given.new.books) c.args.line.now c.in-Ok-read_request.request is
    c.reply_to_given.ensures.failed
