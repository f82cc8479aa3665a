use Rattle.order_core.proofs.ForBuilds.{none-comes}
use Rattle.order_core.proofs.order_command.none_comes_for_builds.Goals as goal

pub returns : goal.returns
returns c = none-comes
