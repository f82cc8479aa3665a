use Rattle.sqlite.specs.Held.{state}
use Rattle.sqlite_trees.specs.View.{doubt}
use Rattle.table_store.proofs.Opening.{harmless_by, left_told, own_told, sound_told}
use Rattle.table_store.proofs.open.open_tables.Goals as goal

pub returns-in-Ok-clause-sound : goal.returns-in-Ok-clause-sound
returns-in-Ok-clause-sound g c =
    sound_told (state g.S.Store) c.compared.result c.in-Ok.conn c.compared.ensures.same c.in-Ok.ensures.sound

pub returns-in-Ok-clause-own : goal.returns-in-Ok-clause-own
returns-in-Ok-clause-own g c =
    own_told (state g.S.Store) c.compared.result c.in-Ok.conn (state g.S.Store c.args.conn).committed.trees
    c.compared.ensures.same c.compared.ensures.own c.in-Ok.ensures.sound c.in-Ok.ensures.same

pub returns-in-Ok-clause-left : goal.returns-in-Ok-clause-left
returns-in-Ok-clause-left g c =
    left_told (state g.S.Store) c.compared.result c.in-Ok.conn (state g.S.Store c.args.conn).may_leave
    c.compared.ensures.same c.in-Ok.ensures.left

pub returns-in-Ok-clause-harmless : goal.returns-in-Ok-clause-harmless
returns-in-Ok-clause-harmless g c =
    harmless_by g.S.Store.view g.S.Store.recovers c.compared.result (doubt (state g.S.Store c.in-Ok.conn).is_clean)
    (state g.S.Store c.in-Ok.conn).may_leave (state g.S.Store c.args.conn).may_leave
    c.compared.ensures.clean c.compared.ensures.harmless c.in-Ok.ensures.left
