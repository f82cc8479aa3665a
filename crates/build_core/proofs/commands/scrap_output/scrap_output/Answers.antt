use Rattle.std.proofs.Common.{rules, sym, ◌∙◌}
use Rattle.build_core.proofs.commands.scrap_output.scrap_output.Goals as goal

pub write_off-made-requires : goal.write_off-made-requires
write_off-made-requires c = (
  c.args.builds.now,
  c.requires.sound,
  sym (c.in_ok-refusal.ensures c.args.day) ∙ c.in_default.is,
)

pub returns-clause-does : goal.returns-clause-does
returns-clause-does c =
    let made = c.write_off-made.ensures.ok c.args.builds.now in search (rules, made)
