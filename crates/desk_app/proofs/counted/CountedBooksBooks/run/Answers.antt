use Rattle.std.proofs.Common.{◌∙◌, ap}
use Rattle.desk_app.proofs.counted.CountedBooksBooks.run.Goals as goal

pub returns-clause-left : goal.returns-clause-left
returns-clause-left g c fine trees may =
    c.run.ensures.left (ap (λ b. g.B.Books.failure_of b) c.tell.ensures.books ∙ fine) trees may
