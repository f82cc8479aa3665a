use Rattle.desk_app.proofs.Tags.{tags_tell_books}
use Rattle.desk_app.proofs.service.tags_tell_books.Goals as goal

pub returns : goal.returns
returns c = tags_tell_books
