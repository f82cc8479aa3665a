use Rattle.std.proofs.Common.{◌∙◌, sym, true≢false}
use Rattle.desk_app.proofs.Leaving.{left_unkept}
use Rattle.desk_app.proofs.watched.WatchedDesk.run_if_in_place.Goals as goal

pub returns-then-in_place-clause-elsewhere : goal.returns-then-in_place-clause-elsewhere
returns-then-in_place-clause-elsewhere g c away = absurd (true≢false (sym c.if-in_place.true ∙ away))

pub returns-clause-left : goal.returns-clause-left
returns-clause-left g c unshut trees there =
    left_unkept g.S.Store c.args.request.now c.run_unkept.result c.args.self.now.desk c.run_unkept.new.self c.requires
    c.run_unkept.ensures.desk c.run_unkept.ensures.tells c.run_unkept.ensures.store.0 c.run_unkept.ensures.conn unshut trees
    there
