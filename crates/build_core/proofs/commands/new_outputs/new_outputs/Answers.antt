use Rattle.std.proofs.Common.{sym, ◌∙◌}
use Rattle.part_core.specs.CatalogueView.{parts_of}
use Rattle.bom_core.specs.BomsView.{bills_of}
use Rattle.build_core.proofs.commands.new_outputs.new_outputs.Goals as goal

pub begin-made-requires-clause-checked : goal.begin-made-requires-clause-checked
begin-made-requires-clause-checked c = (
  parts_of c.args.catalogue.now,
  bills_of c.args.boms.now,
  sym (c.in_ok-refusal.ensures c.args.day) ∙ c.in_default.is,
)
