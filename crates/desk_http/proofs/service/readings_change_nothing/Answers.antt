use Rattle.desk_http.proofs.Readings.{replied, stopped}
use Rattle.desk_http.proofs.service.readings_change_nothing.Goals as goal

pub returns : goal.returns
returns g c = record {
  replied = replied g.S.Service.machine;
  stopped = stopped g.S.Service.machine g.S.Service.left;
}
