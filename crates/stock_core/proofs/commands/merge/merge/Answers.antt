use Rattle.std.proofs.Common.{sym, ◌∙◌}
use Rattle.alloc_core.specs.AllocationsView.{allocations_now}
use Rattle.stock_core.proofs.commands.merge.merge.Goals as goal

pub pour_each-moved-requires-clause-asked : goal.pour_each-moved-requires-clause-asked
pour_each-moved-requires-clause-asked c =
    (allocations_now c.args.allocations.now, sym c.merge_refusal-refusal.ensures ∙ c.in_default.is)
