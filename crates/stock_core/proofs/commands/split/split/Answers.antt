use Rattle.std.proofs.Common.{sym, ◌∙◌}
use Rattle.alloc_core.specs.AllocationsView.{allocations_now}
use Rattle.stock_core.proofs.commands.split.split.Goals as goal

pub cut-moved-requires-clause-checked : goal.cut-moved-requires-clause-checked
cut-moved-requires-clause-checked c =
    (allocations_now c.args.allocations.now, sym (c.split_refusal-refusal.ensures c.args.day) ∙ c.in_default.is)
