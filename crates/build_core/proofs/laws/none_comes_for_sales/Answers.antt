use Rattle.build_core.proofs.ForSales.{none-comes}
use Rattle.build_core.proofs.laws.none_comes_for_sales.Goals as goal

pub returns : goal.returns
returns c = none-comes
