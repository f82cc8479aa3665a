use Rattle.std.proofs.Common.{refl}
use Rattle.desk_app.specs.Services.{run_lines}
use Rattle.desk_app.proofs.Replies.{replied, unreplied_lines}
use Rattle.desk_app.proofs.service.BooksServiceService.run_lines.Goals as goal

pub returns-clause-ok : goal.returns-clause-ok
returns-clause-ok g c =
    replied c.reply_to_said-replied.result c.args.self.now.options c.args.self.now.tag c.tag_after-self.result
    (g.B.Books.state_in c.reply_to_said-replied.new.books)
    (run_lines c.args.self.now.options (g.B.Books.state_in c.args.self.now.books) c.args.said c.args.text.now)
    c.reply_to_said-replied.ensures.ok c.tag_after-self.ensures.ok

pub returns-clause-err : goal.returns-clause-err
returns-clause-err g c =
    unreplied_lines c.reply_to_said-replied.result c.args.self.now.options c.args.self.now.tag c.tag_after-self.result
    (g.B.Books.state_in c.args.self.now.books) (g.B.Books.state_in c.reply_to_said-replied.new.books)
    c.args.said c.args.text.now c.reply_to_said-replied.ensures.failed c.tag_after-self.ensures.err

pub returns-clause-relates : goal.returns-clause-relates
returns-clause-relates g c = (
  (
    c.reply_to_said-replied.ensures.stays_open,
    tt,
    λ before trees there. c.reply_to_said-replied.ensures.left before trees there,
  ),
  refl,
)
