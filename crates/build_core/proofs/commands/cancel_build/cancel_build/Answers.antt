use Rattle.std.proofs.Common.{rules}
use Rattle.build_core.proofs.commands.cancel_build.cancel_build.Goals as goal

pub returns-in-Some-clause-does : goal.returns-in-Some-clause-does
returns-in-Some-clause-does c =
    let told = c.cancel_build_refusal-refusal.ensures c.args.floor.now in search (rules, told)

pub give_up-made-requires-clause-checked : goal.give_up-made-requires-clause-checked
give_up-made-requires-clause-checked c =
    let told = c.cancel_build_refusal-refusal.ensures c.args.floor.now in search (rules, told)

pub returns-clause-does : goal.returns-clause-does
returns-clause-does c =
    let told = c.cancel_build_refusal-refusal.ensures c.args.floor.now in search (rules, told)
