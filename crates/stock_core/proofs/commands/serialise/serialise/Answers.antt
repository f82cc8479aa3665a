use Rattle.std.proofs.Common.{sym, ◌∙◌}
use Rattle.part_core.specs.CatalogueView.{parts_of}
use Rattle.alloc_core.specs.AllocationsView.{allocations_now}
use Rattle.stock_core.proofs.commands.serialise.serialise.Goals as goal

pub cut-moved-requires-clause-checked : goal.cut-moved-requires-clause-checked
cut-moved-requires-clause-checked c =
    (c.args.quantity, parts_of c.args.catalogue.now, allocations_now c.args.allocations.now, sym (c.serialise_refusal-refusal.ensures c.args.day) ∙ c.in_default.is)
