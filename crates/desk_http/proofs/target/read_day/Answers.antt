use Rattle.desk_http.proofs.Days.{no_text}
use Rattle.desk_http.proofs.target.read_day.Goals as goal

pub returns-in-Err : goal.returns-in-Err
returns-in-Err c = no_text c.args.bytes.now c.in-Err.ensures.cases.0
