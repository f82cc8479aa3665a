use Rattle.sqlite.specs.Held.{state}
use Rattle.desk_cli.proofs.Taking.{tells_unmoved}
use Rattle.desk_cli.proofs.file.migrate_desk.Goals as goal

pub returns-in-Err-clause-why : goal.returns-in-Err-clause-why
returns-in-Err-clause-why g c clean =
    tells_unmoved (state g.S.Store c.args.conn) c.in-Err.fault c.from.result c.from.ensures
    (c.has_own_tables.ensures.0 c.if-not-has_own_tables.false) (c.in-Err.ensures.why clean)
