use Rattle.std.proofs.Common.{◌∙◌, ap}
use Rattle.invdesk.specs.Works.{ChecksOnDesk}
use Rattle.invdesk.proofs.Working.{along}
use Rattle.invdesk.proofs.lines.check_on.Goals as goal

pub check-end-requires : goal.check-end-requires
check-end-requires g c = rw (c.new-explained.ensures.books, c.new-watched.ensures.desk) c.requires

pub returns-clause-desk : goal.returns-clause-desk
returns-clause-desk g c = rw (c.into_desk-desk.ensures, c.into_books.ensures) c.check-end.ensures.kept

pub returns-clause-checks : goal.returns-clause-checks
returns-clause-checks g c =
    along c.args.desk c.into_desk-desk.result c.new-explained.result.books.desk c.check-end.new.books.books.desk
    (λ old new. ChecksOnDesk g.S.Store c.args.options old new c.check-end.result)
    (ap (λ watched. watched.desk) c.new-explained.ensures.books ∙ c.new-watched.ensures.desk)
    (c.into_desk-desk.ensures ∙ ap (λ watched. watched.desk) c.into_books.ensures)
    c.check-end.ensures.checks
