use Rattle.std.proofs.Common.{rules}
use Rattle.build_core.proofs.commands.hold_build.hold_build.Goals as goal

pub returns-in-Some-clause-does : goal.returns-in-Some-clause-does
returns-in-Some-clause-does c =
    let told = c.hold_build_refusal-refusal.ensures c.args.floor.now in search (rules, told)

pub set_state-made-requires : goal.set_state-made-requires
set_state-made-requires c =
    let told = c.hold_build_refusal-refusal.ensures c.args.floor.now in search (rules, told)

pub returns-clause-does : goal.returns-clause-does
returns-clause-does c =
    let told = c.hold_build_refusal-refusal.ensures c.args.floor.now in search (rules, told)
