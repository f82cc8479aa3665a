use Rattle.std.proofs.Common.{sym, ◌∙◌}
use Rattle.part_core.specs.CatalogueView.{parts_of}
use Rattle.stock_core.proofs.commands.found.found.Goals as goal

pub arrive-moved-requires-clause-checked : goal.arrive-moved-requires-clause-checked
arrive-moved-requires-clause-checked c =
    (parts_of c.args.catalogue.now, sym (c.found_refusal-refusal.ensures c.args.day) ∙ c.in_default.is)
