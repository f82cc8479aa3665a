use Rattle.std.proofs.Common.{◌∙◌, ap}
use Rattle.desk_core.specs.ShopView.{state_of}
use Rattle.invdesk.specs.Rows.{ImportsFile}
use Rattle.invdesk.specs.Works.{may_leave}
use Rattle.invdesk.proofs.Working.{along}
use Rattle.invdesk.proofs.import.import_on.Goals as goal

pub import-end-requires : goal.import-end-requires
import-end-requires g c =
    rw (c.new-counted.ensures.books, c.new-explained.ensures.books, c.new-watched.ensures.desk) c.requires

pub into_books-requires-2 : goal.into_books-requires-2
into_books-requires-2 g c = rw c.into_books.ensures c.import-end.ensures.kept

pub returns-clause-desk : goal.returns-clause-desk
returns-clause-desk g c =
    rw (c.into_desk.ensures, c.into_books-2.ensures, c.into_books.ensures) c.import-end.ensures.kept

pub returns-clause-imports : goal.returns-clause-imports
returns-clause-imports g c =
    along c.args.desk c.into_desk.result c.new-counted.result.books.books.desk c.import-end.new.books.books.books.desk
    (λ old new. ImportsFile c.args.rows.now old.failed new.failed
    (may_leave g.S.Store new) (state_of old.shop) (state_of new.shop) c.import-end.result)
    (ap (λ explained. explained.books.desk) c.new-counted.ensures.books
    ∙ (ap (λ watched. watched.desk) c.new-explained.ensures.books ∙ c.new-watched.ensures.desk))
    (c.into_desk.ensures
    ∙ (ap (λ watched. watched.desk) c.into_books-2.ensures ∙ ap (λ explained. explained.books.desk) c.into_books.ensures))
    c.import-end.ensures.imports
