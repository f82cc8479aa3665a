use Rattle.desk_app.proofs.LineRequests.{lines_alone, lines_ask}
use Rattle.desk_app.proofs.run.lines_are_requests.Goals as goal

pub returns : goal.returns
returns c = record { requests = lines_ask; alone = lines_alone }
