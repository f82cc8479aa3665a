use Rattle.std.proofs.Common.{refl}
use Rattle.desk_app.specs.Services.{import_sheet}
use Rattle.desk_app.proofs.Replies.{replied, unreplied_sheet}
use Rattle.desk_app.proofs.service.BooksServiceService.import_sheet.Goals as goal

pub returns-clause-ok : goal.returns-clause-ok
returns-clause-ok g c =
    replied c.reply_to_command-replied.result c.args.self.now.options c.args.self.now.tag c.tag_after-self.result
    (g.B.Books.state_in c.reply_to_command-replied.new.books)
    (import_sheet (g.B.Books.state_in c.args.self.now.books) c.args.command.now c.args.document.now c.args.day
    c.args.file.now)
    c.reply_to_command-replied.ensures.ok c.tag_after-self.ensures.ok

pub returns-clause-err : goal.returns-clause-err
returns-clause-err g c =
    unreplied_sheet c.reply_to_command-replied.result c.args.self.now.options c.args.self.now.tag c.tag_after-self.result
    (g.B.Books.state_in c.args.self.now.books) (g.B.Books.state_in c.reply_to_command-replied.new.books)
    c.args.command.now c.args.document.now c.args.day c.args.file.now c.reply_to_command-replied.ensures.failed
    c.tag_after-self.ensures.err

pub returns-clause-relates : goal.returns-clause-relates
returns-clause-relates g c = (
  (
    c.reply_to_command-replied.ensures.stays_open,
    tt,
    λ before trees there. c.reply_to_command-replied.ensures.left before trees there,
  ),
  refl,
)
