use Rattle.desk_app.proofs.Leaving.{left_by_request}
use Rattle.desk_app.proofs.books.DeskBooks.run.Goals as goal

pub returns-clause-left : goal.returns-clause-left
returns-clause-left g c before trees there =
    left_by_request g.S.Store c.args.request.now c.run.result c.args.self.now c.run.new.self c.requires
    c.run.ensures.desk c.run.ensures.tells
    c.run.ensures.store.0 c.run.ensures.crash before there.0 trees there.1
