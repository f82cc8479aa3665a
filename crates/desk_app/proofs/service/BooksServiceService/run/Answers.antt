use Rattle.std.proofs.Common.{refl}
use Rattle.desk_http.specs.Services.{why_none}
use Rattle.desk_app.specs.Services.{run_line}
use Rattle.desk_app.proofs.Replies.{left_if_failed, replied, unreplied_line}
use Rattle.desk_app.proofs.service.BooksServiceService.run.Goals as goal

pub returns-clause-ok : goal.returns-clause-ok
returns-clause-ok g c =
    replied c.reply_to_line-replied.result c.args.self.now.options c.args.self.now.tag c.tag_after-self.result
    (g.B.Books.state_in c.reply_to_line-replied.new.books)
    (run_line c.args.self.now.options (g.B.Books.state_in c.args.self.now.books) c.args.line.now)
    c.reply_to_line-replied.ensures.ok c.tag_after-self.ensures.ok

pub returns-clause-err : goal.returns-clause-err
returns-clause-err g c =
    unreplied_line c.reply_to_line-replied.result c.args.self.now.options c.args.self.now.tag c.tag_after-self.result
    (g.B.Books.state_in c.args.self.now.books) (g.B.Books.state_in c.reply_to_line-replied.new.books) c.args.line.now
    c.reply_to_line-replied.ensures.failed c.tag_after-self.ensures.err

pub returns-clause-relates : goal.returns-clause-relates
returns-clause-relates g c = (
  (
    c.reply_to_line-replied.ensures.stays_open,
    tt,
    λ before trees there.
        left_if_failed (why_none c.reply_to_line-replied.result)
        (g.B.Books.failure_of c.args.self.now.books) (g.B.Books.failure_of c.reply_to_line-replied.new.books)
        c.reply_to_line-replied.ensures.stays_open before
        (λ none. g.met.B.Books.leave_their_tables c.reply_to_line-replied.new.books c.reply_to_line-replied.ensures.kept
        none trees there)
        (c.reply_to_line-replied.ensures.left before trees there),
  ),
  refl,
)
