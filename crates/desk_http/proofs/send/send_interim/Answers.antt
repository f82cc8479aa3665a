use Rattle.desk_http.proofs.Known.{interim_sent}
use Rattle.desk_http.proofs.send.send_interim.Goals as goal

pub returns-then-waits : goal.returns-then-waits
returns-then-waits g c = interim_sent _ _ c.send_now.result c.args.waits c.if-waits.true c.send_now.ensures
