use Rattle.std.proofs.Common.{sym, ◌∙◌}
use Rattle.part_core.specs.CatalogueView.{parts_of}
use Rattle.order_core.proofs.commands.receive.receive.Goals as goal

pub arrive-made-requires-clause-checked : goal.arrive-made-requires-clause-checked
arrive-made-requires-clause-checked c =
    (parts_of c.args.catalogue.now, sym (c.receive_refusal-refusal.ensures c.args.day) ∙ c.in_default.is)
