use Rattle.std.proofs.Common.{◌∙◌, inl, sym, true≢false}
use Rattle.sqlite.specs.Held.{state}
use Rattle.desk_app.proofs.Leaving.{leaves_nothing}
use Rattle.desk_app.proofs.watched.WatchedDesk.commit_if_in_place.Goals as goal

pub returns-then-in_place-clause-unanswered : goal.returns-then-in_place-clause-unanswered
returns-then-in_place-clause-unanswered g c away = absurd (true≢false (sym c.if-in_place.true ∙ away))

pub returns-then-in_place-clause-elsewhere : goal.returns-then-in_place-clause-elsewhere
returns-then-in_place-clause-elsewhere g c away = absurd (true≢false (sym c.if-in_place.true ∙ away))

pub returns-clause-left : goal.returns-clause-left
returns-clause-left g c trees there =
    inl
    (leaves_nothing (state g.S.Store c.args.self.now.desk.conn) (state g.S.Store c.give_up.new.self.conn) trees
    c.give_up.ensures.crash there)

pub returns-clause-elsewhere : goal.returns-clause-elsewhere
returns-clause-elsewhere g c away trees there =
    leaves_nothing (state g.S.Store c.args.self.now.desk.conn) (state g.S.Store c.give_up.new.self.conn) trees
    c.give_up.ensures.crash there
