use Rattle.std.proofs.Common.{rules, sym, ◌∙◌}
use Rattle.build_core.proofs.commands.cancel_output.cancel_output.Goals as goal

pub clear_away-made-requires : goal.clear_away-made-requires
clear_away-made-requires c = (
  c.args.builds.now,
  c.requires.sound,
  sym c.cancel_output_refusal-refusal.ensures ∙ c.in_default.is,
)

pub returns-clause-does : goal.returns-clause-does
returns-clause-does c =
    let made = c.clear_away-made.ensures.ok c.args.builds.now in search (rules, made)
