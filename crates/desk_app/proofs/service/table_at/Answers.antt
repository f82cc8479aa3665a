use Rattle.desk_app.proofs.TableWords.{no_table}
use Rattle.desk_app.proofs.service.table_at.Goals as goal

pub returns-in-Err : goal.returns-in-Err
returns-in-Err c = no_table c.args.name.now c.in-Err.ensures.cases.0
