use Rattle.std.proofs.Common.{sym, ◌∙◌}
use Rattle.alloc_core.specs.AllocationsView.{allocations_now}
use Rattle.stock_core.proofs.commands.transfer.transfer.Goals as goal

pub carry-moved-requires-clause-checked : goal.carry-moved-requires-clause-checked
carry-moved-requires-clause-checked c =
    (allocations_now c.args.allocations.now, sym (c.transfer_refusal-refusal.ensures c.args.day) ∙ c.in_default.is)
