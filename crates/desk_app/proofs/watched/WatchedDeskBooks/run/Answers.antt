use Rattle.std.proofs.Common.{◌⊎◌, subst, sym}
use Rattle.desk_core.specs.Machine.{step}
use Rattle.desk_core.specs.ShopView.{state_of}
use Rattle.desk_store.specs.StateTables.{TablesAre}
use Rattle.desk_app.proofs.watched.WatchedDeskBooks.run.Goals as goal

pub returns-clause-left : goal.returns-clause-left
returns-clause-left g c none trees there =
    subst
    (λ d. TablesAre (state_of d.shop) trees ⊎ TablesAre (step (state_of d.shop) c.args.request.now).0 trees)
    (sym c.tell.ensures.desk) (c.run_if_in_place-outcome.ensures.left none trees (rw c.tell.ensures.desk at there))
