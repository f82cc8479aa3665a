use Rattle.sqlite.specs.Held.{state}
use Rattle.desk_cli.proofs.Taking.{tells_why}
use Rattle.desk_cli.proofs.file.open_desk.Goals as goal

pub returns-in-Err-clause-why : goal.returns-in-Err-clause-why
returns-in-Err-clause-why g c clean =
    tells_why (state g.S.Store c.args.conn) c.in-Err.fault c.from.result c.from.ensures c.requires
    (c.in-Err.ensures.why clean)
