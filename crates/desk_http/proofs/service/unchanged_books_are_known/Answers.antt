use Rattle.desk_http.proofs.Readings.{known}
use Rattle.desk_http.proofs.service.unchanged_books_are_known.Goals as goal

pub returns : goal.returns
returns g c s asked tag body e =
    known (g.S.Service.machine.tag s) asked (g.S.Service.machine.show_books s) tag body e
